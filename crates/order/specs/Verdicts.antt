-- The judgement in the subject's words: what makes an answer right. Assumes nothing.
--   Latest f rec i         i is the newest position at which f holds
--   LatestWrite, LatestRead   the latest write of p in its current life; the latest read of it by thread t
--   Before rec e i         the access at i is ordered before e, which stands as if at the record's end
--   FirstFault, NoFault    n is the first number that applies; none does
--   Witnessed rec e p i    the access at i is the witness of e's race at p
--   Right rec e a          the answer a to the offered event e is right
use Rattle.std.specs.Prelude.{◌≡◌, ℕ, ◌+◌, ◌<◌, ◌≤◌, true, false, List, ◌∷◌, length}
use Rattle.events.specs.declared.Event.{Event}
use Rattle.order.specs.Acts.{writes_place, touches}
use Rattle.order.specs.Records.{Test, holds_at}
use Rattle.order.specs.Order.{Ordered}
use Rattle.order.specs.Conflicts.{lives, in_life, Race}
use Rattle.order.specs.Faults.{applies}
use Rattle.order.specs.Judgement.{Answer, accepted, refused, declined, reads_by}

pub record Latest (f : Test) (rec : List Event) (i : ℕ) : Type 0 where
  pub holds : holds_at rec i f ≡ true
  pub last : (j : ℕ) → holds_at rec j f ≡ true → j ≤ i

abbrev pub LatestWrite : List Event → ℕ → ℕ → Type 0
LatestWrite rec p i = Latest (in_life writes_place p (lives rec p)) rec i

abbrev pub LatestRead : List Event → ℕ → ℕ → ℕ → Type 0
LatestRead rec p t i = Latest (in_life (reads_by t) p (lives rec p)) rec i

abbrev pub Before : List Event → Event → ℕ → Type 0
Before rec e i = Ordered (e ∷ rec) i (length rec)

pub record FirstFault (rec : List Event) (e : Event) (n : ℕ) : Type 0 where
  pub holds : applies rec e n ≡ true
  pub first : (m : ℕ) → m < n → applies rec e m ≡ false

abbrev pub NoFault : List Event → Event → Type 0
NoFault rec e = (n : ℕ) → applies rec e n ≡ false

-- the latest write if unordered; otherwise, for a write, the unordered latest read of the lowest-numbered thread
pub data Witnessed (rec : List Event) (e : Event) (p i : ℕ) : Type 0 where
  by_write : touches e p ≡ true → LatestWrite rec p i → (Before rec e i → ⊥) → Witnessed rec e p i
  by_read : (t : ℕ) → writes_place e p ≡ true → ((w : ℕ) → LatestWrite rec p w → Before rec e w) → LatestRead rec p t i → (Before rec e i → ⊥) → ((u r : ℕ) → u < t → LatestRead rec p u r → Before rec e r) → Witnessed rec e p i

-- the lowest place at which e races, with the serial of the witness there
pub record Declined (rec : List Event) (e : Event) (p s : ℕ) : Type 0 where
  pub lawful : NoFault rec e
  pub position : ℕ
  pub serial : s ≡ position + 1
  pub witness : Witnessed rec e p position
  pub race : Race rec e p position
  pub lowest : (q i : ℕ) → q < p → Race rec e q i → ⊥

pub record Taken (rec : List Event) (e : Event) (s : ℕ) : Type 0 where
  pub lawful : NoFault rec e
  pub serial : s ≡ length rec + 1
  pub free : (p i : ℕ) → Race rec e p i → ⊥

abbrev pub Right : List Event → Event → Answer → Type 0
Right rec e (refused n) = FirstFault rec e n
Right rec e (declined p s) = Declined rec e p s
Right rec e (accepted s) = Taken rec e s
