-- Accesses on slot k of place p, by the number 9p + k of the slot. Assumes nothing.
use Rattle.std.proofs.Common.{◌≡◌, ℕ, zero, suc, ◌+◌, ◌*◌, ◌/◌, ◌<◌, ◌≤◌, Bool, true, false, cond, not, ◌&&◌, ◌||◌, eqb, ltb, leb, [], sym, refl, ap, ◌∙◌, inl, inr, arith}
use Rattle.std.proofs.Math.Bool.{or-false}
use Rattle.std.proofs.lemmas.Bool.{cases_eq, cond-true, cond-false, and_left, and_right, or_from, ne_eqb, eq-eqb}
use Rattle.std.proofs.lemmas.Bool.Decides.{nat_tests, same_from_decides}
use Rattle.events.specs.declared.Event.{Event}
use Rattle.events.specs.declared.Action.{Action}
use Rattle.events.specs.declared.Action.TheVariants.{Read, Write, Acquire, Release, ReadFlag, WriteFlag, Fork, Join, Allocate, Commit}
use Rattle.events.specs.declared.PlaceSet.{PlaceSet}
use Rattle.events.specs.Places.{member, those_below}
use lib.Bits.{bit_or}
use Rattle.order.specs.Acts.{by, allocates, writes_place, reads_place}
use Rattle.order.specs.Slots.{begins, forgets, changed}
use Rattle.order.specs.Work.{accesses}
use Rattle.order.proofs.Passes.{has, has_those_below, those_below_has}
use Rattle.order.proofs.Computing.{acts}
use Rattle.slots.specs.Serials.{by_read, by_write, by_commit}
use Rattle.events.proofs.Counts.{member_or}
use Rattle.keepers.specs.Meaning.{is_slot}

pub read_at : (q u n p k x : ℕ) → u < 8 → p < 64 → k < 9 → cond (is_slot (9 * q + (u + 1)) && eqb (9 * p + k) (9 * q + (u + 1))) n x ≡ by_read q u n p k x
unfolding by_read
read_at q u n p k x thread place slot = ap (λ b. cond b n x) (grind (arith, nat_tests))

-- a thread out of range has no slot
pub read_past : (q u n p k x : ℕ) → 8 ≤ u → k < 9 → by_read q u n p k x ≡ x
unfolding by_read
read_past q u n p k x thread slot = cond-false (eqb q p && eqb k (u + 1)) n x (and_right (eqb q p) (eqb k (u + 1)) (ne_eqb k (u + 1) (λ e. omega arith)))

-- forgotten, or begun, or kept
three : (f b o z : Bool) (n x y : ℕ) → f ≡ (o && not z) → b ≡ (o && z) → y ≡ cond b n x → cond f 0 y ≡ cond o (cond z n 0) x
three f b true true n x y q r s = (λ d. cond (q d) 0 (s d)) ∙ ap (λ c. cond c n x) r
three f b true false n x y q r s = (λ d. cond (q d) 0 (s d))
three f b false z n x y q r s = (λ d. cond (q d) 0 (s d)) ∙ ap (λ c. cond c n x) r

pub write_at : (q n p k y x : ℕ) → p < 64 → k < 9 → y ≡ cond (is_slot (9 * q) && eqb (9 * p + k) (9 * q)) n x → cond (leb (9 * q + 1) (9 * p + k) && ltb (9 * p + k) (9 * q + 1 + 8)) 0 y ≡ by_write q n p k x
unfolding by_write
write_at q n p k y x place slot e =
    let others : (leb (9 * q + 1) (9 * p + k) && ltb (9 * p + k) (9 * q + 1 + 8)) ≡ (eqb q p && not (eqb k 0)) = grind (arith, nat_tests) in
    let first : (is_slot (9 * q) && eqb (9 * p + k) (9 * q)) ≡ (eqb q p && eqb k 0) = grind (arith, nat_tests) in
    three _ _ (eqb q p) (eqb k 0) n x y others first e

-- one slot more is forgotten
pub forget_next : (first i s x y : ℕ) → first ≤ i → s < 576 → y ≡ cond (leb first s && ltb s i) 0 x → cond (is_slot i && eqb s i) 0 y ≡ cond (leb first s && ltb s (i + 1)) 0 x
forget_next first i s x y l r e = grind (arith, nat_tests)

-- what a commit makes of the serial x of slot k of one of its places
abbrev pub at_place : ℕ → ℕ → ℕ → ℕ → ℕ → ℕ → ℕ
at_place w u n p k x = cond (member w p) (cond (eqb k 0) n 0) (cond (eqb k (u + 1)) n x)

same_cond : {A : Type 0} (b : Bool) (x : A) → cond b x x ≡ x
same_cond true x = refl
same_cond false x = refl

twice_cond : {A : Type 0} (b : Bool) (x y : A) → cond b x (cond b x y) ≡ cond b x y
twice_cond true x y = refl
twice_cond false x y = refl

-- place q is accessed, and then those of a list that has p just if b says so
module _ (q w u n p k x : ℕ) (b : Bool) where
  other : (y : ℕ) → y ≡ x → (eqb q p) ≡ false → cond b (at_place w u n p k y) y ≡ cond (eqb q p || b) (at_place w u n p k x) x
  other y same apart = ap (λ z. cond b (at_place w u n p k z) z) same ∙ ap (λ c. cond (c || b) (at_place w u n p k x) x) (sym apart)

  own : (y : ℕ) → at_place w u n p k y ≡ y → y ≡ at_place w u n p k x → eqb q p ≡ true → cond b (at_place w u n p k y) y ≡ cond (eqb q p || b) (at_place w u n p k x) x
  own y still same is = ap (λ z. cond b z y) still ∙ same_cond b y ∙ same ∙ ap (λ c. cond (c || b) (at_place w u n p k x) x) (sym is)

  pub write_then : member w q ≡ true → cond b (at_place w u n p k (by_write q n p k x)) (by_write q n p k x) ≡ cond (eqb q p || b) (at_place w u n p k x) x
  unfolding by_write
  write_then h =
      elim (cases_eq q p) [
        | inl e ↦ (
            let is = eq-eqb q p e in
            let writes : member w p ≡ true = ap (member w) (sym e) ∙ h in
            let y = cond (eqb q p) (cond (eqb k 0) n 0) x in
            let here : (z : ℕ) → at_place w u n p k z ≡ cond (eqb k 0) n 0 = λ z. cond-true (member w p) (cond (eqb k 0) n 0) (cond (eqb k (u + 1)) n z) writes in
            let read : y ≡ cond (eqb k 0) n 0 = cond-true (eqb q p) (cond (eqb k 0) n 0) x is in
            own y (here y ∙ sym read) (read ∙ sym (here x)) is)
        | inr o ↦ let apart = ne_eqb q p o in other (cond (eqb q p) (cond (eqb k 0) n 0) x) (cond-false (eqb q p) (cond (eqb k 0) n 0) x apart) apart
      ]

  pub read_then : member w q ≡ false → cond b (at_place w u n p k (by_read q u n p k x)) (by_read q u n p k x) ≡ cond (eqb q p || b) (at_place w u n p k x) x
  unfolding by_read
  read_then h =
      elim (cases_eq q p) [
        | inl e ↦ (
            let is = eq-eqb q p e in
            let reads : member w p ≡ false = ap (member w) (sym e) ∙ h in
            let y = cond (eqb q p && eqb k (u + 1)) n x in
            let here : (z : ℕ) → at_place w u n p k z ≡ cond (eqb k (u + 1)) n z = λ z. cond-false (member w p) (cond (eqb k 0) n 0) (cond (eqb k (u + 1)) n z) reads in
            let read : y ≡ cond (eqb k (u + 1)) n x = ap (λ c. cond (c && eqb k (u + 1)) n x) is in
            own y (here y ∙ ap (cond (eqb k (u + 1)) n) read ∙ twice_cond (eqb k (u + 1)) n x ∙ sym read) (read ∙ sym (here x)) is)
        | inr o ↦ let apart = ne_eqb q p o in other (cond (eqb q p && eqb k (u + 1)) n x) (cond-false (eqb q p && eqb k (u + 1)) n x (and_left (eqb q p) (eqb k (u + 1)) apart)) apart
      ]

-- accessing the places of both sets is all that a commit does
pub commit_places : (r w u n p k x : ℕ) → p < 64 → cond (has (those_below 64 (member (bit_or r w))) p) (at_place w u n p k x) x ≡ by_commit r w u n p k x
unfolding by_commit
commit_places r w u n p k x place =
    let f = member (bit_or r w) in
    ap (λ b. cond b (at_place w u n p k x) x) (same_from_decides (has (those_below 64 f) p) (f p) (λ h. (those_below_has 64 f p h).1, has_those_below 64 f p place) (λ h. h, λ h. h) ∙ member_or r w p) ∙ at_test (member r p) (member w p)
  where
    at_test : (a b : Bool) → cond (a || b) (cond b (cond (eqb k 0) n 0) (cond (eqb k (u + 1)) n x)) x ≡ cond b (cond (eqb k 0) n 0) (cond (a && eqb k (u + 1)) n x)
    at_test true true = refl
    at_test true false = refl
    at_test false true = refl
    at_test false false = refl

-- the rule of a slot, for the serial n of an event of thread t
module _ (t p : ℕ) (n x : ℕ) where
  read_rule : (q k : ℕ) → by_read q t n p k x ≡ changed (by t (Read q)) p k n 0 x
  unfolding acts begins forgets by_read
  read_rule q zero = cond-false (eqb q p && eqb 0 (t + 1)) n x (and_right (eqb q p) (eqb 0 (t + 1)) (ne_eqb 0 (t + 1) (λ z. omega arith)))
  read_rule q (suc u) =
      let same : (eqb q p && eqb (suc u) (t + 1)) ≡ ((eqb q p || false) && eqb t u) = grind (arith, nat_tests) in
      ap (λ b. cond b n x) same

  write_rule : (q k : ℕ) → by_write q n p k x ≡ changed (by t (Write q)) p k n 0 x
  unfolding acts begins forgets by_write
  write_rule q zero = ap (λ b. cond b n x) (sym (or-false (eqb q p)))
  write_rule q (suc u) =
      ap (λ b. cond (eqb q p) b x) (cond-false (eqb (suc u) 0) n 0 (ne_eqb (suc u) 0 (λ z. omega arith))) ∙ ap (λ b. cond b 0 x) (sym (or-false (eqb q p)))

  allocate_rule : (o k : ℕ) → k < 9 → cond (leb (36 * o) (9 * p + k) && ltb (9 * p + k) (36 * o + 36)) 0 x ≡ changed (by t (Allocate o)) p k n 0 x
  unfolding acts begins forgets
  allocate_rule o zero l =
      let same : (leb (36 * o) (9 * p + 0) && ltb (9 * p + 0) (36 * o + 36)) ≡ eqb o (p / 4) = grind (arith, nat_tests) in
      ap (λ b. cond b 0 x) same
  allocate_rule o (suc u) l =
      let same : (leb (36 * o) (9 * p + suc u) && ltb (9 * p + suc u) (36 * o + 36)) ≡ (eqb o (p / 4) || false) = grind (arith, nat_tests) in
      ap (λ b. cond b 0 x) same

  commit_first : (r w c : Bool) → c ≡ false → cond w n (cond (r && c) n x) ≡ cond w n x
  commit_first r true c h = refl
  commit_first true false c h = cond-false c n x h
  commit_first false false c h = refl

  commit_others : (r w a b c : Bool) → a ≡ false → b ≡ c → cond w (cond a n 0) (cond (r && b) n x) ≡ cond (r && not w && c) n (cond w 0 x)
  commit_others true true a b c h q = cond-false a n 0 h
  commit_others false true a b c h q = cond-false a n 0 h
  commit_others true false a b c h q = ap (λ d. cond d n x) q
  commit_others false false a b c h q = refl

  commit_rule : (r w : PlaceSet) (k : ℕ) → by_commit r.word w.word t n p k x ≡ changed (by t (Commit r w)) p k n 0 x
  unfolding acts begins forgets by_commit
  commit_rule r w zero = commit_first (member r.word p) (member w.word p) (eqb 0 (t + 1)) (ne_eqb 0 (t + 1) (λ z. omega arith))
  commit_rule r w (suc u) =
      let same : eqb (suc u) (t + 1) ≡ eqb t u = grind (arith, nat_tests) in
      commit_others (member r.word p) (member w.word p) (eqb (suc u) 0) (eqb (suc u) (t + 1)) (eqb t u) (ne_eqb (suc u) 0 (λ z. omega arith)) same

-- the same for an event that is known to do it
module _ (e : Event) (p k n x : ℕ) where
  ruled : (a : Action) → e.action ≡ a → changed (by e.thread a) p k n 0 x ≡ changed e p k n 0 x
  ruled a is = ap (λ b. changed (by e.thread b) p k n 0 x) (sym is)

  pub read_ruled : (q : ℕ) → e.action ≡ Read q → by_read q e.thread n p k x ≡ changed e p k n 0 x
  read_ruled q is = read_rule e.thread p n x q k ∙ ruled (Read q) is

  pub write_ruled : (q : ℕ) → e.action ≡ Write q → by_write q n p k x ≡ changed e p k n 0 x
  write_ruled q is = write_rule e.thread p n x q k ∙ ruled (Write q) is

  pub allocate_ruled : (o : ℕ) → e.action ≡ Allocate o → k < 9 → cond (leb (36 * o) (9 * p + k) && ltb (9 * p + k) (36 * o + 36)) 0 x ≡ changed e p k n 0 x
  allocate_ruled o is l = allocate_rule e.thread p n x o k l ∙ ruled (Allocate o) is

  pub commit_ruled : (r w : PlaceSet) → e.action ≡ Commit r w → by_commit r.word w.word e.thread n p k x ≡ changed e p k n 0 x
  commit_ruled r w is = commit_rule e.thread p n x r w k ∙ ruled (Commit r w) is

-- an event that accesses and allocates nothing leaves every slot
still : (e : Event) (p k n x : ℕ) → writes_place e p ≡ false → reads_place e p ≡ false → allocates e p ≡ false → x ≡ changed e p k n 0 x
unfolding begins forgets acts
still e p zero n x w r a = sym (cond-false (writes_place e p) n _ w ∙ cond-false (allocates e p) 0 x a)
still e p (suc u) n x w r a =
    sym (cond-false (reads_place e p && eqb e.thread u) n _ (and_left (reads_place e p) _ r) ∙ cond-false (allocates e p || writes_place e p) 0 x (or_from (allocates e p) (writes_place e p) a w))

-- the action is none of those that access or allocate
pub record Inert (a : Action) : Type 0 where
  pub read : (q : ℕ) → a ≡ Read q → ⊥
  pub write : (q : ℕ) → a ≡ Write q → ⊥
  pub allocate : (o : ℕ) → a ≡ Allocate o → ⊥
  pub commit : (r w : PlaceSet) → a ≡ Commit r w → ⊥

pub no_accesses : (t : ℕ) (a : Action) → Inert a → accesses t a ≡ []
no_accesses t (Read q) i = absurd (i.read q refl)
no_accesses t (Write q) i = absurd (i.write q refl)
no_accesses t (Acquire l) i = refl
no_accesses t (Release l) i = refl
no_accesses t (ReadFlag f) i = refl
no_accesses t (WriteFlag f) i = refl
no_accesses t (Fork u) i = refl
no_accesses t (Join u) i = refl
no_accesses t (Allocate o) i = absurd (i.allocate o refl)
no_accesses t (Commit r w) i = absurd (i.commit r w refl)

inert_rule : (t : ℕ) (a : Action) → Inert a → (p k n x : ℕ) → x ≡ changed (by t a) p k n 0 x
unfolding acts
inert_rule t (Read q) i p k n x = absurd (i.read q refl)
inert_rule t (Write q) i p k n x = absurd (i.write q refl)
inert_rule t (Acquire l) i p k n x = still (by t (Acquire l)) p k n x refl refl refl
inert_rule t (Release l) i p k n x = still (by t (Release l)) p k n x refl refl refl
inert_rule t (ReadFlag f) i p k n x = still (by t (ReadFlag f)) p k n x refl refl refl
inert_rule t (WriteFlag f) i p k n x = still (by t (WriteFlag f)) p k n x refl refl refl
inert_rule t (Fork u) i p k n x = still (by t (Fork u)) p k n x refl refl refl
inert_rule t (Join u) i p k n x = still (by t (Join u)) p k n x refl refl refl
inert_rule t (Allocate o) i p k n x = absurd (i.allocate o refl)
inert_rule t (Commit r w) i p k n x = absurd (i.commit r w refl)

pub inert_ruled : (e : Event) → Inert e.action → (p k n x : ℕ) → x ≡ changed e p k n 0 x
inert_ruled e i p k n x = inert_rule e.thread e.action i p k n x
