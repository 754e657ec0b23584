-- The calls of an event do to each slot's set what the slot's rule says. Assumes nothing.
use Rattle.std.proofs.Common.{◌≡◌, ℕ, zero, suc, ◌+◌, ◌*◌, ◌/◌, ◌<◌, Bool, true, false, cond, not, ◌&&◌, ◌||◌, eqb, ltb, leb, List, [], ◌∷◌, ◌++◌, map, sym, refl, ap, ◌∙◌, inl, inr, arith}
use Rattle.std.proofs.lemmas.Bool.{cases_eq, cond-true, cond-false, eq-eqb, ne_eqb, lt-ltb, le-ltb, and_left, and_right, or_from}
use Rattle.std.proofs.lemmas.Bool.Decides.{nat_tests}
use Rattle.events.specs.declared.Event.{Event}
use Rattle.events.specs.declared.Action.{Action}
use Rattle.events.specs.declared.Action.TheVariants.{Read, Write, Acquire, Release, ReadFlag, WriteFlag, Fork, Join, Allocate, Commit}
use Rattle.events.specs.declared.PlaceSet.{PlaceSet}
use Rattle.events.specs.Places.{member}
use Rattle.order.specs.Acts.{by, does, allocates, writes_place, reads_place}
use Rattle.order.specs.Judgement.{reads_by}
use Rattle.order.specs.Slots.{Set, begins, forgets, changed, taken, given}
use Rattle.order.specs.Work.{Call, begin, forget, pass, forget_from, written, looked_at, committed, accesses, calls}
use Rattle.order.proofs.Passes.{pass_in, pass_out, worked, nobody, only, passed}

-- the sets of all slots after a call, and after a list of calls in that order
abbrev pub Sets : Type 0
Sets = ℕ → Set

abbrev pub done : Call → Sets → Sets
done (begin i t) sets j = cond (eqb j i) (only t) (sets j)
done (forget i) sets j = cond (eqb j i) nobody (sets j)
done (pass a b) sets j = passed a b (sets j)

unfoldable pub all_done : List Call → Sets → Sets
all_done [] sets = sets
all_done (c ∷ cs) sets = all_done cs (done c sets)

pub all_done_append : (cs ds : List Call) (sets : Sets) → all_done (cs ++ ds) sets ≡ all_done ds (all_done cs sets)
unfolding all_done
all_done_append [] ds sets = refl
all_done_append (c ∷ cs) ds sets = all_done_append cs ds (done c sets)

pub passes_in : (t : ℕ) (hs : List ℕ) (sets : Sets) (j : ℕ) → all_done (map (λ h. pass h t) hs) sets j ≡ pass_in t hs (sets j)
unfolding all_done pass_in
passes_in t [] sets j = refl
passes_in t (h ∷ hs) sets j = passes_in t hs (done (pass h t) sets) j

pub passes_out : (t : ℕ) (hs : List ℕ) (sets : Sets) (j : ℕ) → all_done (map (λ h. pass t h) hs) sets j ≡ pass_out t hs (sets j)
unfolding all_done pass_out
passes_out t [] sets j = refl
passes_out t (h ∷ hs) sets j = passes_out t hs (done (pass t h) sets) j

both_ways_same : {A : Type 0} (a b : Bool) (x y : A) → cond a x (cond b x y) ≡ cond (a || b) x y
both_ways_same true b x y = refl
both_ways_same false b x y = refl

forgotten : (n i : ℕ) (sets : Sets) (j : ℕ) → all_done (forget_from n i) sets j ≡ cond (leb i j && ltb j (i + n)) nobody (sets j)
unfolding all_done forget_from
forgotten zero i sets j =
    let never : (leb i j && ltb j (i + 0)) ≡ false = grind (arith, nat_tests) in
    sym (cond-false _ nobody (sets j) never)
forgotten (suc n) i sets j =
    let widened : (leb (i + 1) j && ltb j (i + 1 + n) || eqb j i) ≡ (leb i j && ltb j (i + suc n)) = grind (arith, nat_tests) in
    forgotten n (i + 1) (done (forget i) sets) j ∙ both_ways_same (leb (i + 1) j && ltb j (i + 1 + n)) (eqb j i) nobody (sets j) ∙ ap (λ b. cond b nobody (sets j)) widened

-- what the access of place q does to slot k of place p
looked : (t p q k : ℕ) (sets : Sets) → k < 9 → t < 8 → all_done (looked_at t q) sets (9 * p + k) ≡ cond (eqb q p && eqb k (t + 1)) (only t) (sets (9 * p + k))
unfolding all_done
looked t p q k sets l m = ap (λ b. cond b (only t) (sets (9 * p + k))) (grind (arith, nat_tests))

begun_or_forgotten : {A : Type 0} (p k f b : Bool) (x y z : A) → f ≡ (p && not k) → b ≡ (p && k) → cond f y (cond b x z) ≡ cond (p && k) x (cond p y z)
begun_or_forgotten true true f b x y z q r = (λ d. cond (q d) y (cond (r d) x z))
begun_or_forgotten true false f b x y z q r = (λ d. cond (q d) y (cond (r d) x z))
begun_or_forgotten false k f b x y z q r = (λ d. cond (q d) y (cond (r d) x z))

wrote : (t p q k : ℕ) (sets : Sets) → k < 9 → all_done (written t q) sets (9 * p + k) ≡ cond (eqb q p && eqb k 0) (only t) (cond (eqb q p) nobody (sets (9 * p + k)))
unfolding all_done
wrote t p q k sets l =
    let j = 9 * p + k in
    let others : (leb (9 * q + 1) (9 * p + k) && ltb (9 * p + k) (9 * q + 1 + 8)) ≡ (eqb q p && not (eqb k 0)) = grind (arith, nat_tests) in
    let first : eqb (9 * p + k) (9 * q) ≡ (eqb q p && eqb k 0) = grind (arith, nat_tests) in
    forgotten 8 (9 * q + 1) (done (begin (9 * q) t) sets) j ∙ begun_or_forgotten (eqb q p) (eqb k 0) _ _ (only t) nobody (sets j) others first

-- what a commit's accesses do to it: r and w say whether the place is in its sets
abbrev by_commit : Bool → Bool → ℕ → ℕ → Set → Set
by_commit r w t k s = cond w (cond (eqb k 0) (only t) nobody) (cond (r && eqb k (t + 1)) (only t) s)

abbrev part : ℕ → ℕ → ℕ → ℕ → List Call
part t r w q = cond (member w q) (written t q) (cond (member r q) (looked_at t q) [])

part_at : (t r w p q k : ℕ) (sets : Sets) → k < 9 → t < 8 → all_done (part t r w q) sets (9 * p + k) ≡ cond (eqb q p) (by_commit (member r q) (member w q) t k (sets (9 * p + k))) (sets (9 * p + k))
unfolding all_done
part_at t r w p q k sets l m = go (member w q) (member r q)
  where
    j : ℕ
    j = 9 * p + k

    chosen : (b c : Bool) (x y s : Set) → cond (b && c) x (cond b y s) ≡ cond b (cond c x y) s
    chosen true true x y s = refl
    chosen true false x y s = refl
    chosen false c x y s = refl

    taken_apart : (b c : Bool) (x s : Set) → cond (b && c) x s ≡ cond b (cond c x s) s
    taken_apart true c x s = refl
    taken_apart false c x s = refl

    same : (b : Bool) (s : Set) → s ≡ cond b s s
    same true s = refl
    same false s = refl

    go : (x y : Bool) → all_done (cond x (written t q) (cond y (looked_at t q) [])) sets (9 * p + k) ≡ cond (eqb q p) (by_commit y x t k (sets (9 * p + k))) (sets (9 * p + k))
    go true y = wrote t p q k sets l ∙ chosen (eqb q p) (eqb k 0) (only t) nobody (sets (9 * p + k))
    go false true = looked t p q k sets l m ∙ taken_apart (eqb q p) (eqb k (t + 1)) (only t) (sets (9 * p + k))
    go false false = same (eqb q p) (sets (9 * p + k))

committed_at : (n t r w p k : ℕ) (sets : Sets) → k < 9 → t < 8 → all_done (committed n t r w) sets (9 * p + k) ≡ cond (ltb p n) (by_commit (member r p) (member w p) t k (sets (9 * p + k))) (sets (9 * p + k))
unfolding committed all_done
committed_at zero t r w p k sets l m = sym (cond-false (ltb p 0) _ (sets (9 * p + k)) (le-ltb p 0 (omega arith)))
committed_at (suc n) t r w p k sets l m =
    let j = 9 * p + k in
    let x : Set = by_commit (member r p) (member w p) t k (sets (9 * p + k)) in
    let ih = committed_at n t r w p k sets l m in
    ap (λ f. f (9 * p + k)) (all_done_append (committed n t r w) (part t r w n) sets) ∙ part_at t r w p n k (all_done (committed n t r w) sets) l m ∙ elim (cases_eq n p) [
      | inl q ↦
          let before : all_done (committed n t r w) sets (9 * p + k) ≡ sets (9 * p + k) = ih ∙ cond-false (ltb p n) _ (sets (9 * p + k)) (le-ltb p n (omega arith)) in
          cond-true (eqb n p) _ _ (eq-eqb n p q) ∙ (λ d. by_commit (member r (q d)) (member w (q d)) t k (before d)) ∙ sym (cond-true (ltb p (suc n)) _ (sets (9 * p + k)) (lt-ltb p (suc n) (omega arith)))
      | inr q ↦
          let same : ltb p n ≡ ltb p (suc n) = grind (arith, nat_tests) in
          cond-false (eqb n p) _ _ (ne_eqb n p q) ∙ ih ∙ ap (λ b. cond b x (sets (9 * p + k))) same
    ]

-- an event that accesses and allocates nothing leaves every slot
untouched : {A : Type 0} (e : Event) (p k : ℕ) (x y z : A) → writes_place e p ≡ false → reads_place e p ≡ false → allocates e p ≡ false → z ≡ changed e p k x y z
unfolding begins forgets reads_by
untouched e p zero x y z w r a = sym (cond-false (writes_place e p) x _ w ∙ cond-false (allocates e p) y z a)
untouched e p (suc u) x y z w r a =
    sym (cond-false (reads_place e p && eqb e.thread u) x _ (and_left (reads_place e p) _ r) ∙ cond-false (allocates e p || writes_place e p) y z (or_from (allocates e p) (writes_place e p) a w))

-- choices between a slot begun, emptied and kept, as the accesses make them and as the rule does
module _ {A : Type 0} (x y z : A) where
  write_first : (b : Bool) → cond (b && true) x (cond b y z) ≡ cond (b || false) x z
  write_first true = refl
  write_first false = refl

  write_others : (b c : Bool) → c ≡ false → cond (b && c) x (cond b y z) ≡ cond (b || false) y z
  write_others true c h = cond-false c x y h
  write_others false c h = refl

  commit_first : (r w c : Bool) → c ≡ false → cond w x (cond (r && c) x z) ≡ cond w x z
  commit_first r true c h = refl
  commit_first true false c h = cond-false c x z h
  commit_first false false c h = refl

  commit_others : (r w a b c : Bool) → a ≡ false → b ≡ c → cond w (cond a x y) (cond (r && b) x z) ≡ cond (r && not w && c) x (cond w y z)
  commit_others true true a b c h q = cond-false a x y h
  commit_others false true a b c h q = cond-false a x y h
  commit_others true false a b c h q = ap (λ d. cond d x z) q
  commit_others false false a b c h q = refl

module _ (t p : ℕ) (sets : Sets) (place : p < 64) (thread : t < 8) where
  -- the accesses of an action do to slot k of place p what the slot's rule says
  abbrev AsRuled : Action → ℕ → Type 0
  AsRuled a k = all_done (accesses t a) sets (9 * p + k) ≡ changed (by t a) p k (only t) nobody (sets (9 * p + k))

  read_ruled : (q k : ℕ) → k < 9 → AsRuled (Read q) k
  unfolding begins forgets reads_by reads_place writes_place allocates does
  read_ruled q zero l =
      looked t p q 0 sets l thread ∙ cond-false (eqb q p && eqb 0 (t + 1)) (only t) (sets (9 * p + 0)) (and_right (eqb q p) (eqb 0 (t + 1)) (ne_eqb 0 (t + 1) (λ z. omega arith)))
  read_ruled q (suc u) l =
      let same : (eqb q p && eqb (suc u) (t + 1)) ≡ ((eqb q p || false) && eqb t u) = grind (arith, nat_tests) in
      looked t p q (suc u) sets l thread ∙ ap (λ b. cond b (only t) (sets (9 * p + suc u))) same

  write_ruled : (q k : ℕ) → k < 9 → AsRuled (Write q) k
  unfolding begins forgets reads_by reads_place writes_place allocates does
  write_ruled q zero l = wrote t p q 0 sets l ∙ write_first (only t) nobody (sets (9 * p + 0)) (eqb q p)
  write_ruled q (suc u) l =
      wrote t p q (suc u) sets l ∙ write_others (only t) nobody (sets (9 * p + suc u)) (eqb q p) (eqb (suc u) 0) (ne_eqb (suc u) 0 (λ z. omega arith))

  allocate_ruled : (o k : ℕ) → k < 9 → AsRuled (Allocate o) k
  unfolding begins forgets reads_by reads_place writes_place allocates does
  allocate_ruled o zero l =
      let same : (leb (36 * o) (9 * p + 0) && ltb (9 * p + 0) (36 * o + 36)) ≡ eqb o (p / 4) = grind (arith, nat_tests) in
      forgotten 36 (36 * o) sets (9 * p + 0) ∙ ap (λ b. cond b nobody (sets (9 * p + 0))) same
  allocate_ruled o (suc u) l =
      let same : (leb (36 * o) (9 * p + suc u) && ltb (9 * p + suc u) (36 * o + 36)) ≡ (eqb o (p / 4) || false) = grind (arith, nat_tests) in
      forgotten 36 (36 * o) sets (9 * p + suc u) ∙ ap (λ b. cond b nobody (sets (9 * p + suc u))) same

  commit_ruled : (r w : PlaceSet) (k : ℕ) → k < 9 → AsRuled (Commit r w) k
  unfolding begins forgets reads_by reads_place writes_place allocates does
  commit_ruled r w zero l =
      committed_at 64 t r.word w.word p 0 sets l thread ∙ cond-true (ltb p 64) _ (sets (9 * p + 0)) (lt-ltb p 64 place) ∙ commit_first (only t) nobody (sets (9 * p + 0)) (member r.word p) (member w.word p) (eqb 0 (t + 1)) (ne_eqb 0 (t + 1) (λ z. omega arith))
  commit_ruled r w (suc u) l =
      let same : eqb (suc u) (t + 1) ≡ eqb t u = grind (arith, nat_tests) in
      committed_at 64 t r.word w.word p (suc u) sets l thread ∙ cond-true (ltb p 64) _ (sets (9 * p + suc u)) (lt-ltb p 64 place) ∙ commit_others (only t) nobody (sets (9 * p + suc u)) (member r.word p) (member w.word p) (eqb (suc u) 0) (eqb (suc u) (t + 1)) (eqb t u) (ne_eqb (suc u) 0 (λ z. omega arith)) same

  inert : (a : Action) (k : ℕ) → accesses t a ≡ [] → writes_place (by t a) p ≡ false → reads_place (by t a) p ≡ false → allocates (by t a) p ≡ false → AsRuled a k
  unfolding all_done
  inert a k nothing w r o =
      ap (λ cs. all_done cs sets (9 * p + k)) nothing ∙ untouched (by t a) p k (only t) nobody (sets (9 * p + k)) w r o

  as_ruled : (a : Action) (k : ℕ) → k < 9 → AsRuled a k
  unfolding reads_place writes_place allocates does
  as_ruled (Read q) k l = read_ruled q k l
  as_ruled (Write q) k l = write_ruled q k l
  as_ruled (Acquire q) k l = inert (Acquire q) k refl refl refl refl
  as_ruled (Release q) k l = inert (Release q) k refl refl refl refl
  as_ruled (ReadFlag q) k l = inert (ReadFlag q) k refl refl refl refl
  as_ruled (WriteFlag q) k l = inert (WriteFlag q) k refl refl refl refl
  as_ruled (Fork q) k l = inert (Fork q) k refl refl refl refl
  as_ruled (Join q) k l = inert (Join q) k refl refl refl refl
  as_ruled (Allocate q) k l = allocate_ruled q k l
  as_ruled (Commit r w) k l = commit_ruled r w k l

-- the calls of an event, on every slot
pub calls_work : (e : Event) → e.thread < 8 → (sets : Sets) (p k : ℕ) → p < 64 → k < 9 → all_done (calls e) sets (9 * p + k) ≡ worked e p k (sets (9 * p + k))
unfolding calls worked
calls_work e small sets p k l m =
    let t = e.thread in
    let a = e.action in
    let j = 9 * p + k in
    let sets' = all_done (map (λ h. pass h e.thread) (taken e.action)) sets in
    let sets'' = all_done (accesses e.thread e.action) sets' in
    ap (λ (f : Sets). f (9 * p + k)) (all_done_append (map (λ h. pass h e.thread) (taken e.action)) _ sets ∙ all_done_append (accesses e.thread e.action) (map (λ h. pass e.thread h) (given e.action)) sets') ∙ passes_out t (given e.action) sets'' j ∙ ap (pass_out t (given e.action)) (as_ruled t p sets' l small a k m ∙ ap (changed e p k (only t) nobody) (passes_in t (taken e.action) sets j))
