-- The laws of a keeper's meaning: what users of a keeper and keepers themselves cite of each call. Assumes nothing.
--
-- NAME-taken     in range, the call is done           NAME-refused   else it is refused, and
-- NAME-same      a refused call leaves the meaning    sets-NAME      a set after the call
-- passes-NAME    the count after the call             NAME-from      the meaning after the call, from its parts
use Rattle.std.proofs.Common.{◌≡◌, ℕ, ◌+◌, ◌<◌, ◌≤◌, Bool, true, false, cond, ◌&&◌, ◌||◌, eqb, ltb, Ok, Err, Result, sym, refl, ap, ◌∙◌, ap₂, inl, inr, arith}
use mathlib.Core.Path.{fun_ext}
use Rattle.std.proofs.lemmas.Bool.{lt-ltb, le-ltb, ltb-true, and_from, and_parts, and_left, and_right, or_left, cond-true, cond-false, cond_both, eq-eqb, ne_eqb, cases_lt, false_from_ne_true}
use Rattle.keepers.specs.declared.fault.KeeperFault.{KeeperFault}
use Rattle.keepers.specs.declared.fault.KeeperFault.TheVariants.{OutOfRange, PassLimit}
use Rattle.keepers.specs.Meaning.{Meaning, is_slot, is_holder, is_thread, may_pass}
use Rattle.keepers.specs.Meaning.{cleared, begun, forgotten, passed, begin_answer, forget_answer, pass_answer, ask_answer}

-- two tests below their limits, and not both below

both_below : (a m b n : ℕ) → a < m → b < n → (ltb a m && ltb b n) ≡ true
both_below a m b n p q = and_from (ltb a m) (ltb b n) (lt-ltb a m p) (lt-ltb b n q)

not_both_below : (a m b n : ℕ) → (a < m → b < n → ⊥) → (ltb a m && ltb b n) ≡ false
not_both_below a m b n no_way =
    false_from_ne_true (ltb a m && ltb b n) (λ e. let p = and_parts (ltb a m) (ltb b n) e in no_way (ltb-true a m p.0) (ltb-true b n p.1))

-- two meanings are the same if all their sets and their counts are
pub same_meaning : (m n : Meaning) → ((s h : ℕ) → m.sets s h ≡ n.sets s h) → m.passes ≡ n.passes → m ≡ n
same_meaning m n sets passes =
    ap₂ (λ (f : ℕ → ℕ → Bool) (k : ℕ). let r : Meaning = record { sets = f; passes = k } in r) (fun_ext (λ s. fun_ext (λ h. sets s h))) passes

-- clear

pub sets_cleared : (s h : ℕ) → cleared.sets s h ≡ false
unfolding cleared
sets_cleared s h = refl

pub passes_cleared : cleared.passes ≡ 0
unfolding cleared
passes_cleared = refl

pub cleared_from : (n : Meaning) → ((s h : ℕ) → n.sets s h ≡ false) → n.passes ≡ 0 → n ≡ cleared
unfolding cleared
cleared_from n sets passes = same_meaning n cleared sets passes

-- begin and forget, refused; neither counts

pub begin_refused : (slot thread : ℕ) → (slot < 576 → thread < 8 → ⊥) → begin_answer slot thread ≡ Err OutOfRange
unfolding begin_answer
begin_refused slot thread out = cond-false (is_slot slot && is_thread thread) (Ok tt) (Err OutOfRange) (not_both_below slot 576 thread 8 out)

pub begun_same : (m : Meaning) (slot thread : ℕ) → (slot < 576 → thread < 8 → ⊥) → begun m slot thread ≡ m
unfolding begun
begun_same m slot thread out = cond-false (is_slot slot && is_thread thread) _ m (not_both_below slot 576 thread 8 out)

pub passes_begun : (m : Meaning) (slot thread : ℕ) → (begun m slot thread).passes ≡ m.passes
unfolding begun
passes_begun m slot thread = cond_both (is_slot slot && is_thread thread) _ m (λ n. n.passes ≡ m.passes) (λ _. refl) (λ _. refl)

pub forget_refused : (slot : ℕ) → 576 ≤ slot → forget_answer slot ≡ Err OutOfRange
unfolding forget_answer
forget_refused slot out = cond-false (is_slot slot) (Ok tt) (Err OutOfRange) (le-ltb slot 576 out)

pub forgotten_same : (m : Meaning) (slot : ℕ) → 576 ≤ slot → forgotten m slot ≡ m
unfolding forgotten
forgotten_same m slot out = cond-false (is_slot slot) _ m (le-ltb slot 576 out)

pub passes_forgotten : (m : Meaning) (slot : ℕ) → (forgotten m slot).passes ≡ m.passes
unfolding forgotten
passes_forgotten m slot = cond_both (is_slot slot) _ m (λ n. n.passes ≡ m.passes) (λ _. refl) (λ _. refl)

-- begin, in range

module _ (slot thread : ℕ) (p : slot < 576) (q : thread < 8) where
  begins : (is_slot slot && is_thread thread) ≡ true
  begins = both_below slot 576 thread 8 p q

  pub begin_taken : begin_answer slot thread ≡ Ok tt
  unfolding begin_answer
  begin_taken = cond-true (is_slot slot && is_thread thread) (Ok tt) (Err OutOfRange) begins

  pub sets_begun : (m : Meaning) (s h : ℕ) → (begun m slot thread).sets s h ≡ cond (eqb s slot) (eqb h thread) (m.sets s h)
  unfolding begun
  sets_begun m s h = ap (λ (n : Meaning). n.sets s h) (cond-true (is_slot slot && is_thread thread) _ m begins)

  pub sets_begun_here : (m : Meaning) (h : ℕ) → (begun m slot thread).sets slot h ≡ eqb h thread
  sets_begun_here m h = sets_begun m slot h ∙ cond-true (eqb slot slot) (eqb h thread) (m.sets slot h) (eq-eqb slot slot refl)

  pub sets_begun_other : (m : Meaning) (s h : ℕ) → (s ≡ slot → ⊥) → (begun m slot thread).sets s h ≡ m.sets s h
  sets_begun_other m s h other = sets_begun m s h ∙ cond-false (eqb s slot) (eqb h thread) (m.sets s h) (ne_eqb s slot other)

  pub begun_from : (m n : Meaning) → ((s h : ℕ) → n.sets s h ≡ cond (eqb s slot) (eqb h thread) (m.sets s h)) → n.passes ≡ m.passes → n ≡ begun m slot thread
  begun_from m n sets passes = same_meaning n (begun m slot thread) (λ s h. sets s h ∙ sym (sets_begun m s h)) (passes ∙ sym (passes_begun m slot thread))

-- forget, in range

module _ (slot : ℕ) (p : slot < 576) where
  pub forget_taken : forget_answer slot ≡ Ok tt
  unfolding forget_answer
  forget_taken = cond-true (is_slot slot) (Ok tt) (Err OutOfRange) (lt-ltb slot 576 p)

  pub sets_forgotten : (m : Meaning) (s h : ℕ) → (forgotten m slot).sets s h ≡ cond (eqb s slot) false (m.sets s h)
  unfolding forgotten
  sets_forgotten m s h = ap (λ (n : Meaning). n.sets s h) (cond-true (is_slot slot) _ m (lt-ltb slot 576 p))

  pub sets_forgotten_here : (m : Meaning) (h : ℕ) → (forgotten m slot).sets slot h ≡ false
  sets_forgotten_here m h = sets_forgotten m slot h ∙ cond-true (eqb slot slot) false (m.sets slot h) (eq-eqb slot slot refl)

  pub sets_forgotten_other : (m : Meaning) (s h : ℕ) → (s ≡ slot → ⊥) → (forgotten m slot).sets s h ≡ m.sets s h
  sets_forgotten_other m s h other = sets_forgotten m s h ∙ cond-false (eqb s slot) false (m.sets s h) (ne_eqb s slot other)

  pub forgotten_from : (m n : Meaning) → ((s h : ℕ) → n.sets s h ≡ cond (eqb s slot) false (m.sets s h)) → n.passes ≡ m.passes → n ≡ forgotten m slot
  forgotten_from m n sets passes = same_meaning n (forgotten m slot) (λ s h. sets s h ∙ sym (sets_forgotten m s h)) (passes ∙ sym (passes_forgotten m slot))

-- pass, in range and below the limit

module _ (m : Meaning) (from to : ℕ) (p : from < 136) (q : to < 136) (few : m.passes < 200000000) where
  passes_on : ((is_holder from && is_holder to) && may_pass m.passes) ≡ true
  passes_on = and_from (is_holder from && is_holder to) (may_pass m.passes) (both_below from 136 to 136 p q) (lt-ltb m.passes 200000000 few)

  pub pass_taken : pass_answer m from to ≡ Ok tt
  unfolding pass_answer
  pass_taken =
      cond-true (is_holder from && is_holder to) (cond (may_pass m.passes) (Ok tt) (Err PassLimit)) (Err OutOfRange) (both_below from 136 to 136 p q)
      ∙ cond-true (may_pass m.passes) (Ok tt) (Err PassLimit) (lt-ltb m.passes 200000000 few)

  pub sets_passed : (s h : ℕ) → (passed m from to).sets s h ≡ (m.sets s h || (eqb h to && m.sets s from))
  unfolding passed
  sets_passed s h = ap (λ (n : Meaning). n.sets s h) (cond-true ((is_holder from && is_holder to) && may_pass m.passes) _ m passes_on)

  pub passes_passed : (passed m from to).passes ≡ m.passes + 1
  unfolding passed
  passes_passed = ap (λ (n : Meaning). n.passes) (cond-true ((is_holder from && is_holder to) && may_pass m.passes) _ m passes_on)

  pub passed_from : (n : Meaning) → ((s h : ℕ) → n.sets s h ≡ (m.sets s h || (eqb h to && m.sets s from))) → n.passes ≡ m.passes + 1 → n ≡ passed m from to
  passed_from n sets passes = same_meaning n (passed m from to) (λ s h. sets s h ∙ sym (sets_passed s h)) (passes ∙ sym passes_passed)

-- pass, refused

module _ (m : Meaning) (from to : ℕ) (out : from < 136 → to < 136 → ⊥) where
  pub pass_refused : pass_answer m from to ≡ Err OutOfRange
  unfolding pass_answer
  pass_refused = cond-false (is_holder from && is_holder to) _ (Err OutOfRange) (not_both_below from 136 to 136 out)

  pub passed_same : passed m from to ≡ m
  unfolding passed
  passed_same = cond-false ((is_holder from && is_holder to) && may_pass m.passes) _ m (and_left (is_holder from && is_holder to) (may_pass m.passes) (not_both_below from 136 to 136 out))

module _ (m : Meaning) (from to : ℕ) (p : from < 136) (q : to < 136) (full : 200000000 ≤ m.passes) where
  pub pass_full : pass_answer m from to ≡ Err PassLimit
  unfolding pass_answer
  pass_full =
      cond-true (is_holder from && is_holder to) (cond (may_pass m.passes) (Ok tt) (Err PassLimit)) (Err OutOfRange) (both_below from 136 to 136 p q)
      ∙ cond-false (may_pass m.passes) (Ok tt) (Err PassLimit) (le-ltb m.passes 200000000 full)

  pub passed_full : passed m from to ≡ m
  unfolding passed
  passed_full = cond-false ((is_holder from && is_holder to) && may_pass m.passes) _ m (and_right (is_holder from && is_holder to) (may_pass m.passes) (le-ltb m.passes 200000000 full))

-- no pass takes a holder out of a set, or counts past the limit

pub stays_passed : (m : Meaning) (from to s h : ℕ) → m.sets s h ≡ true → (passed m from to).sets s h ≡ true
unfolding passed
stays_passed m from to s h e =
    cond_both ((is_holder from && is_holder to) && may_pass m.passes) _ m (λ n. n.sets s h ≡ true) (λ _. or_left (m.sets s h) (eqb h to && m.sets s from) e) (λ _. e)

-- and an empty set stays empty
pub stays_empty : (m : Meaning) (from to s : ℕ) → ((h : ℕ) → m.sets s h ≡ false) → (h : ℕ) → (passed m from to).sets s h ≡ false
unfolding passed
stays_empty m from to s none h =
    cond_both ((is_holder from && is_holder to) && may_pass m.passes) _ m (λ n. n.sets s h ≡ false)
    (λ _. ap (λ b. b || (eqb h to && m.sets s from)) (none h) ∙ and_right (eqb h to) (m.sets s from) (none from)) (λ _. none h)

pub passes_within : (m : Meaning) (from to : ℕ) → m.passes ≤ 200000000 → (passed m from to).passes ≤ 200000000
unfolding passed
passes_within m from to few =
    cond_both ((is_holder from && is_holder to) && may_pass m.passes) _ m (λ n. n.passes ≤ 200000000)
    (λ t. let l = ltb-true m.passes 200000000 (and_parts (is_holder from && is_holder to) (may_pass m.passes) t).1 in omega arith) (λ _. few)

-- ask

pub ask_taken : (m : Meaning) (slot holder : ℕ) → slot < 576 → holder < 136 → ask_answer m slot holder ≡ Ok (m.sets slot holder)
unfolding ask_answer
ask_taken m slot holder p q = cond-true (is_slot slot && is_holder holder) (Ok (m.sets slot holder)) (Err OutOfRange) (both_below slot 576 holder 136 p q)

pub ask_refused : (m : Meaning) (slot holder : ℕ) → (slot < 576 → holder < 136 → ⊥) → ask_answer m slot holder ≡ Err OutOfRange
unfolding ask_answer
ask_refused m slot holder out = cond-false (is_slot slot && is_holder holder) (Ok (m.sets slot holder)) (Err OutOfRange) (not_both_below slot 576 holder 136 out)

-- read off the answer: what was done was in range, and a refused call leaves the meaning as it was

answers_differ : {X : Type 0} (r : Result X KeeperFault) (x : X) (e : KeeperFault) → r ≡ Ok x → r ≡ Err e → ⊥
answers_differ r x e p q = let z : ◌≡◌ {A = ℕ} 0 1 = cc in omega arith

pub begin_in_range : (slot thread : ℕ) → begin_answer slot thread ≡ Ok tt → (slot < 576) × (thread < 8)
begin_in_range slot thread done = elim (cases_lt slot 576) [
  | inl p ↦ elim (cases_lt thread 8) [
    | inl q ↦ (p, q)
    | inr q ↦ absurd (answers_differ (begin_answer slot thread) tt OutOfRange done (begin_refused slot thread (λ _ r. omega arith)))
  ]
  | inr p ↦ absurd (answers_differ (begin_answer slot thread) tt OutOfRange done (begin_refused slot thread (λ r _. omega arith)))
]

pub forget_in_range : (slot : ℕ) → forget_answer slot ≡ Ok tt → slot < 576
forget_in_range slot done = elim (cases_lt slot 576) [
  | inl p ↦ p
  | inr p ↦ absurd (answers_differ (forget_answer slot) tt OutOfRange done (forget_refused slot p))
]

pub begun_refused : (m : Meaning) (slot thread : ℕ) (e : KeeperFault) → begin_answer slot thread ≡ Err e → begun m slot thread ≡ m
begun_refused m slot thread e refused =
    begun_same m slot thread (λ p q. answers_differ (begin_answer slot thread) tt e (begin_taken slot thread p q) refused)

pub forgotten_refused : (m : Meaning) (slot : ℕ) (e : KeeperFault) → forget_answer slot ≡ Err e → forgotten m slot ≡ m
forgotten_refused m slot e refused = elim (cases_lt slot 576) [
  | inl p ↦ absurd (answers_differ (forget_answer slot) tt e (forget_taken slot p) refused)
  | inr p ↦ forgotten_same m slot p
]

pub passed_refused : (m : Meaning) (from to : ℕ) (e : KeeperFault) → pass_answer m from to ≡ Err e → passed m from to ≡ m
passed_refused m from to e refused = elim (cases_lt m.passes 200000000) [
  | inl few ↦ passed_same m from to (λ p q. answers_differ (pass_answer m from to) tt e (pass_taken m from to p q few) refused)
  | inr full ↦ elim (cases_lt from 136) [
    | inl p ↦ elim (cases_lt to 136) [
      | inl q ↦ passed_full m from to p q full
      | inr q ↦ passed_same m from to (λ _ r. omega arith)
    ]
    | inr p ↦ passed_same m from to (λ r _. omega arith)
  ]
]
