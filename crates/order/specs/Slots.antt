-- Slots: for each place its latest write (slot 0) and each thread's latest read (slot t + 1), what an accepted event does
-- to a slot, and the set of holders that a slot's access has reached, by their numbers. Assumes nothing.
--   slot_access rec p k   the access that the slot stands for: of the current life, and no read older than the latest write
--   begins, forgets       the event's access starts the slot anew, or empties it
--   taken e, given e      the holders that e passes from into its thread, and from its thread to, in ascending order
--   InSlot rec p k h      the slot's access has reached h
use Rattle.std.specs.Prelude.{◌≡◌, ℕ, zero, suc, ◌+◌, Bool, true, cond, ◌||◌, ◌↔◌, List, [], ◌∷◌, map, Some, None, Option, nat_lt}
use Rattle.events.specs.declared.Event.{Event}
use Rattle.events.specs.declared.Action.{Action}
use Rattle.events.specs.declared.Action.TheVariants.{Read, Write, Acquire, Release, ReadFlag, WriteFlag, Fork, Join, Allocate, Commit}
use Rattle.events.specs.Places.{member, those_below}
use Rattle.order.specs.Acts.{allocates, writes_place}
use Rattle.order.specs.Judgement.{latest_write, latest_read, reads_by}
use Rattle.order.specs.Holders.{Holder, Reached, InRange, holder_number}

-- the read o, unless a write came after it
abbrev pub since : Option ℕ → Option ℕ → Option ℕ
since None o = o
since (Some w) None = None
since (Some w) (Some r) = cond (nat_lt w r) (Some r) None

unfoldable pub slot_access : List Event → ℕ → ℕ → Option ℕ
slot_access rec p zero = latest_write rec p
slot_access rec p (suc t) = since (latest_write rec p) (latest_read rec p t)

unfoldable pub begins : Event → ℕ → ℕ → Bool
begins e p zero = writes_place e p
begins e p (suc t) = reads_by t e p

unfoldable pub forgets : Event → ℕ → ℕ → Bool
forgets e p zero = allocates e p
forgets e p (suc t) = allocates e p || writes_place e p

-- what becomes of a slot: begun anew, emptied, or kept
abbrev pub changed : {A : Type 0} → Event → ℕ → ℕ → A → A → A → A
changed e p k begun empty kept = cond (begins e p k) begun (cond (forgets e p k) empty kept)

abbrev pub Set : Type 0
Set = ℕ → Bool

-- the holders that stand for the places of two sets together
unfoldable pub place_holders : ℕ → ℕ → List ℕ
place_holders r w = map (λ p. 72 + p) (those_below 64 (λ p. member r p || member w p))

abbrev pub taken : Action → List ℕ
taken (Read p) = []
taken (Write p) = []
taken (Acquire l) = (8 + l) ∷ []
taken (Release l) = []
taken (ReadFlag f) = (40 + f) ∷ []
taken (WriteFlag f) = []
taken (Fork u) = []
taken (Join u) = u ∷ []
taken (Allocate o) = []
taken (Commit r w) = place_holders r.word w.word

abbrev pub given : Action → List ℕ
given (Read p) = []
given (Write p) = []
given (Acquire l) = []
given (Release l) = (8 + l) ∷ []
given (ReadFlag f) = []
given (WriteFlag f) = (40 + f) ∷ []
given (Fork u) = u ∷ []
given (Join u) = []
given (Allocate o) = []
given (Commit r w) = place_holders r.word w.word

pub record InSlot (rec : List Event) (p k : ℕ) (h : Holder) : Type 0 where
  pub access : ℕ
  pub is : slot_access rec p k ≡ Some access
  pub reached : Reached rec access h

-- the set holds just the holders that the slot's access has reached
abbrev pub SlotSet : List Event → ℕ → ℕ → Set → Type 0
SlotSet rec p k s = (h : Holder) → InRange h → (s (holder_number h) ≡ true) ↔ InSlot rec p k h
