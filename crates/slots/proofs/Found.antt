-- The search for a race, step by step. Assumes nothing.
use Rattle.std.specs.Bool.{then_some}
use Rattle.std.specs.List.{range_with_len}
use Rattle.std.proofs.Common.{◌≡◌, ℕ, zero, suc, ◌+◌, ◌*◌, ◌<◌, ◌≤◌, Bool, true, false, cond, not, ◌&&◌, ◌||◌, eqb, List, [], ◌∷◌, ◌++◌, Some, None, Option, sym, refl, ap, ap₂, ◌∙◌, inl, inr, add-zero, zero-add, arith}
use Rattle.std.proofs.lemmas.Option.{none-some}
use mathlib.Core.Path.{fun_ext}
use Rattle.std.proofs.lemmas.Bool.{cases_eq, cases_lt, cond-true, cond-false, or_left, or_right, or_from, ne_eqb, false≢true}
use Rattle.events.specs.Places.{member, those_below}
use Rattle.events.specs.declared.Event.{Event}
use Rattle.events.specs.declared.Action.{Action}
use Rattle.events.specs.declared.Action.TheVariants.{Read, Write, Acquire, Release, ReadFlag, WriteFlag, Fork, Join, Allocate, Commit}
use Rattle.events.specs.declared.PlaceSet.{PlaceSet}
use Rattle.keepers.specs.Meaning.{Meaning}
use Rattle.slots.specs.Bounds.{InBounds}
use Rattle.slots.specs.Made.{set_at, held_at}
use Rattle.slots.specs.Serials.{some_serial}
use Rattle.slots.proofs.Places.{held_in_range, some_in_range}
use Rattle.slots.proofs.Ranges.{in_range, thread_in_range, taken_holders}
use Rattle.slots.proofs.Finding.{first_some}
use Rattle.order.specs.Acts.{by, touches, writes_place, reads_place}
use Rattle.order.specs.Cells.{some_in, arrived, pending, cell_read, cell_witness, cell_race}
use Rattle.order.specs.Judgement.{Finding, found}
use Rattle.order.specs.Searches.{first_from, or_else}
use Rattle.order.specs.Slots.{Set, taken}
use Rattle.order.proofs.Computing.{acts}
use Rattle.order.proofs.Options.{some_not_none}
use Rattle.order.proofs.Searches.{first_from_cases, first_from_same}

-- whether an access has arrived
pub arrived_own : (e : Event) (s : Set) → s e.thread ≡ true → arrived e s ≡ true
unfolding arrived
arrived_own e s h = or_left (s e.thread) _ h

pub arrived_else : (e : Event) (s : Set) → s e.thread ≡ false → arrived e s ≡ some_in (taken e.action) s
unfolding arrived
arrived_else e s h = ap (λ b. b || some_in (taken e.action) s) h

-- an access that is there is pending unless it has arrived
pub pending_none : (e : Event) (n : ℕ) (s : Set) → some_serial n ≡ None → pending e n s ≡ None
unfolding pending
pending_none e n s none = at_test (eqb n 0) (arrived e s) none
  where
    at_test : (b a : Bool) → cond b None (Some n) ≡ None → cond (b || a) None (Some n) ≡ None
    at_test true a none = refl
    at_test false true none = refl
    at_test false false none = none

pub pending_some : (e : Event) (n : ℕ) (s : Set) (m : ℕ) → some_serial n ≡ Some m → pending e n s ≡ then_some (not (arrived e s)) m
unfolding pending
pending_some e n s m some = at_test (eqb n 0) (arrived e s) some
  where
    at_test : (b a : Bool) → cond b None (Some n) ≡ Some m → cond (b || a) None (Some n) ≡ then_some (not a) m
    at_test true a some = absurd (none-some m some)
    at_test false true some = refl
    at_test false false some = some

or_else_none : {A : Type 0} (o : Option A) → or_else o None ≡ o
or_else_none (Some a) = refl
or_else_none None = refl

or_else_assoc : {A : Type 0} (a b c : Option A) → or_else (or_else a b) c ≡ or_else a (or_else b c)
or_else_assoc (Some a) b c = refl
or_else_assoc None b c = refl

-- a search over numbers in a row, along their list
pub first_along : {A : Type 0} (n k i a : ℕ) (f g : ℕ → Option A) → i ≡ a + k → ((t : ℕ) → f (a + t) ≡ g t) → first_some f (range_with_len i n) ≡ first_from n k g
unfolding first_from
first_along zero k i a f g from same = refl
first_along (suc n) k i a f g from same = ap₂ or_else (ap f from ∙ same k) (first_along n (k + 1) (i + 1) a f g (omega arith) same)

module _ {A : Type 0} (f : ℕ → Option A) where
  first_append : (xs ys : List ℕ) → first_some f (xs ++ ys) ≡ or_else (first_some f xs) (first_some f ys)
  first_append [] ys = refl
  first_append (x ∷ xs) ys = ap (or_else (f x)) (first_append xs ys) ∙ sym (or_else_assoc (f x) (first_some f xs) (first_some f ys))

  first_last : (n k : ℕ) → first_from (suc n) k f ≡ or_else (first_from n k f) (f (k + n))
  unfolding first_from
  first_last zero k = or_else_none (f k) ∙ ap f (sym (add-zero k))
  first_last (suc n) k =
      let same : k + 1 + n ≡ k + suc n = omega arith in
      ap (or_else (f k)) (first_last n (k + 1) ∙ ap (λ i. or_else (first_from n (k + 1) f) (f i)) same) ∙ sym (or_else_assoc (f k) (first_from n (k + 1) f) (f (k + suc n)))

  -- numbers that have no answer may be left out
  pub first_among : (n : ℕ) (test : ℕ → Bool) → ((i : ℕ) → test i ≡ false → f i ≡ None) → first_from n 0 f ≡ first_some f (those_below n test)
  unfolding first_from those_below
  first_among zero test none = refl
  first_among (suc n) test none = first_last n 0 ∙ ap₂ or_else (first_among n test none) (ap f (zero-add n)) ∙ last (test n) (none n) ∙ sym (first_append (those_below n test) (cond (test n) (n ∷ []) []))
    where
      last : (b : Bool) → (b ≡ false → f n ≡ None) → or_else (first_some f (those_below n test)) (f n) ≡ or_else (first_some f (those_below n test)) (first_some f (cond b (n ∷ []) []))
      last true none = ap (or_else (first_some f (those_below n test))) (sym (or_else_none (f n)))
      last false none = ap (or_else (first_some f (those_below n test))) (none refl)

-- the witness at a place: n and s give its cells
module _ (e : Event) (n : ℕ → ℕ) (s : ℕ → Set) where
  pub witness_write : (p : ℕ) → writes_place e p ≡ true → cell_witness e p n s ≡ or_else (pending e (n 0) (s 0)) (cell_read e n s)
  unfolding cell_witness touches
  witness_write p h =
      cond-true (touches e p) _ None (or_left (writes_place e p) _ h) ∙ ap (or_else (pending e (n 0) (s 0))) (cond-true (writes_place e p) (cell_read e n s) None h)

  pub witness_read : (p : ℕ) → writes_place e p ≡ false → reads_place e p ≡ true → cell_witness e p n s ≡ pending e (n 0) (s 0)
  unfolding cell_witness touches
  witness_read p h r =
      cond-true (touches e p) _ None (or_right (writes_place e p) _ r) ∙ ap (or_else (pending e (n 0) (s 0))) (cond-false (writes_place e p) (cell_read e n s) None h) ∙ or_else_none (pending e (n 0) (s 0))

  pub witness_untouched : (p : ℕ) → touches e p ≡ false → cell_witness e p n s ≡ None
  unfolding cell_witness
  witness_untouched p h = cond-false (touches e p) _ None h

  -- where there are no accesses there is none
  pub witness_empty : (p : ℕ) → ((k : ℕ) → n k ≡ 0) → cell_witness e p n s ≡ None
  unfolding cell_witness cell_read pending first_from
  witness_empty p zeros =
      ap (λ m. cell_witness e p m s) (fun_ext {f = n} {g = λ _. 0} zeros) ∙ at_test (touches e p) (writes_place e p)
    where
      at_test : (a b : Bool) → ◌≡◌ {A = Option ℕ} (cond a (cond b None None) None) None
      at_test true true = refl
      at_test true false = refl
      at_test false b = refl

  pub witness_none : (p : ℕ) → writes_place e p ≡ false → reads_place e p ≡ false → cell_witness e p n s ≡ None
  unfolding touches
  witness_none p h r = witness_untouched p (or_from (writes_place e p) (reads_place e p) h r)

-- the search among the places: n and s give the cells by place
module _ (e : Event) (n : ℕ → ℕ → ℕ) (s : ℕ → ℕ → Set) where
  unfoldable pub race_of : ℕ → Option Finding
  race_of p = found p (cell_witness e p (n p) (s p))

  untouched : (p : ℕ) → touches e p ≡ false → race_of p ≡ None
  unfolding race_of
  untouched p h = ap (found p) (witness_untouched e (n p) (s p) p h)

  race_search : cell_race e n s ≡ first_from 64 0 race_of
  unfolding race_of cell_race
  race_search = refl

  -- an event that touches no place but those that pass the test
  pub race_among : (test : ℕ → Bool) → ((p : ℕ) → test p ≡ false → touches e p ≡ false) → cell_race e n s ≡ first_some (λ p. found p (cell_witness e p (n p) (s p))) (those_below 64 test)
  unfolding race_of
  race_among test others = race_search ∙ first_among race_of 64 test (λ p out. untouched p (others p out))

  -- an event that touches one place at most; past the last place there are no accesses
  pub race_only : (p : ℕ) → (64 ≤ p → (k : ℕ) → n p k ≡ 0) → ((q : ℕ) → (q ≡ p → ⊥) → touches e q ≡ false) → cell_race e n s ≡ found p (cell_witness e p (n p) (s p))
  unfolding race_of
  race_only p past others =
      race_search ∙ elim (first_from_cases race_of 64 0) [
        | inl f ↦ f.1 ∙ elim (cases_eq f.2.at p) [
          | inl same ↦ sym f.2.is ∙ ap race_of same
          | inr other ↦ absurd (some_not_none (race_of f.2.at) f.0 f.2.is (untouched f.2.at (others f.2.at other)))
        ]
        | inr f ↦ elim (cases_lt p 64) [
          | inl within ↦ f.0 ∙ sym (f.1 p (omega arith) (omega arith))
          | inr far ↦ f.0 ∙ sym (ap (found p) (witness_empty e (n p) (s p) p (past far)))
        ]
      ]

  pub race_nowhere : ((q : ℕ) → touches e q ≡ false) → cell_race e n s ≡ None
  race_nowhere others =
      race_search ∙ elim (first_from_cases race_of 64 0) [
        | inl f ↦ absurd (some_not_none (race_of f.2.at) f.0 f.2.is (untouched f.2.at (others f.2.at)))
        | inr f ↦ f.0
      ]

-- an event in bounds asks for nobody out of range, so that the slots' own sets decide
module _ (e : Event) (bounds : InBounds e) (n : ℕ → ℕ → ℕ) (m : Meaning) where
  pending_in_range : (p k : ℕ) → p < 64 → k < 9 → pending e (n p k) (held_at m p k) ≡ pending e (n p k) (set_at m p k)
  unfolding pending arrived
  pending_in_range p k place slot =
      let own = held_in_range m (9 * p + k) e.thread (omega arith) (let l = thread_in_range e bounds in omega arith) in
      let taking = some_in_range m (9 * p + k) (taken e.action) (omega arith) (taken_holders e.action (in_range e bounds)) in
      ap (λ b. cond (eqb (n p k) 0 || b) None (Some (n p k))) (ap₂ (λ a b. a || b) own taking)

  witness_in_range : (p : ℕ) → p < 64 → cell_witness e p (n p) (held_at m p) ≡ cell_witness e p (n p) (set_at m p)
  unfolding cell_witness cell_read
  witness_in_range p place =
      let reads = first_from_same _ _ 8 0 (λ t _ l. pending_in_range p (t + 1) place (omega arith)) in
      ap₂ (λ a b. cond (touches e p) (or_else a (cond (writes_place e p) b None)) None) (pending_in_range p 0 place (omega arith)) reads

  pub race_in_range : cell_race e n (held_at m) ≡ cell_race e n (set_at m)
  unfolding cell_race
  race_in_range = first_from_same _ _ 64 0 (λ p _ l. ap (found p) (witness_in_range p (omega arith)))

-- which places an event touches
touched_by_read : (t p q : ℕ) → (q ≡ p → ⊥) → touches (by t (Read p)) q ≡ false
unfolding acts
touched_by_read t p q o = or_from (eqb p q) false (ne_eqb p q (λ e. o (sym e))) refl

touched_by_write : (t p q : ℕ) → (q ≡ p → ⊥) → touches (by t (Write p)) q ≡ false
unfolding acts
touched_by_write t p q o = or_from (eqb p q || false) false (or_from (eqb p q) false (ne_eqb p q (λ e. o (sym e))) refl) refl

pub read_touches : (e : Event) (p : ℕ) → e.action ≡ Read p → (q : ℕ) → (q ≡ p → ⊥) → touches e q ≡ false
read_touches e p is q o = ap (λ a. touches (by e.thread a) q) is ∙ touched_by_read e.thread p q o

pub write_touches : (e : Event) (p : ℕ) → e.action ≡ Write p → (q : ℕ) → (q ≡ p → ⊥) → touches e q ≡ false
write_touches e p is q o = ap (λ a. touches (by e.thread a) q) is ∙ touched_by_write e.thread p q o

-- a commit touches no place outside its sets
touched_by_commit : (t : ℕ) (r w : PlaceSet) (q : ℕ) → (member r.word q || member w.word q) ≡ false → touches (by t (Commit r w)) q ≡ false
unfolding acts
touched_by_commit t r w q out = at_test (member r.word q) (member w.word q) out
  where
    at_test : (a b : Bool) → (a || b) ≡ false → (false || true && b || (false || true && (a && not b))) ≡ false
    at_test true b out = absurd (false≢true (sym out))
    at_test false true out = absurd (false≢true (sym out))
    at_test false false out = refl

pub commit_touches : (e : Event) (r w : PlaceSet) → e.action ≡ Commit r w → (q : ℕ) → (member r.word q || member w.word q) ≡ false → touches e q ≡ false
commit_touches e r w is q out = ap (λ a. touches (by e.thread a) q) is ∙ touched_by_commit e.thread r w q out

-- the action is none of those that access places
pub record Apart (a : Action) : Type 0 where
  pub read : (q : ℕ) → a ≡ Read q → ⊥
  pub write : (q : ℕ) → a ≡ Write q → ⊥
  pub commit : (r w : PlaceSet) → a ≡ Commit r w → ⊥

apart_touches : (t : ℕ) (a : Action) → Apart a → (q : ℕ) → touches (by t a) q ≡ false
unfolding acts
apart_touches t (Read p) i q = absurd (i.read p refl)
apart_touches t (Write p) i q = absurd (i.write p refl)
apart_touches t (Acquire l) i q = refl
apart_touches t (Release l) i q = refl
apart_touches t (ReadFlag f) i q = refl
apart_touches t (WriteFlag f) i q = refl
apart_touches t (Fork u) i q = refl
apart_touches t (Join u) i q = refl
apart_touches t (Allocate o) i q = refl
apart_touches t (Commit r w) i q = absurd (i.commit r w refl)

pub nothing_touched : (e : Event) → Apart e.action → (q : ℕ) → touches e q ≡ false
nothing_touched e i q = apart_touches e.thread e.action i q
