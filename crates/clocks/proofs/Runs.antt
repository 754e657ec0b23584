-- Clocks and epochs as functions: what a begin and a pass do to the sets, and that they go on running. Assumes nothing.
--
-- f h t       how far holder h has heard of thread t; a passes to b
use Rattle.std.proofs.Common.{◌≡◌, ℕ, ◌+◌, ◌<◌, ◌≤◌, max, cond, ◌&&◌, ◌||◌, eqb, leb, List, length, get_or, set, replicate, Some, None, Option, sym, refl, ap, ◌∙◌, subst, ap₂, inl, inr, arith}
use mathlib.Core.Bool.{and-false, or-false}
use Rattle.std.proofs.lemmas.List.{get_or-set_same, get_or-set_other, get_or-replicate}
use Rattle.std.proofs.lemmas.Bool.{cases_eq, lt-ltb, le-leb, lt-leb, eq-eqb, ne_eqb, cond-true, cond-false, and_from, and_left, and_right}
use Rattle.std.proofs.lemmas.Bool.Decides.{nat_tests}
use Rattle.keepers.specs.Meaning.{is_thread}
use Rattle.clocks.specs.Kept.{reached, joined, moved, Run}
use Rattle.clocks.specs.declared.vector.Epoch.{Epoch}

module _ (f : ℕ → ℕ → ℕ) (a b : ℕ) where
  joined_other : (h t : ℕ) → (h ≡ b → ⊥) → joined f a b h t ≡ f h t
  joined_other h t n = cond-false (eqb h b) (max (f b t) (f a t)) (f h t) (ne_eqb h b n)

  -- only a thread's own count moves on
  moved_other : (h t : ℕ) → (h ≡ t → ⊥) → moved f a b h t ≡ joined f a b h t
  moved_other h t n = elim (cases_eq h a) [
    | inl p ↦ cond-false (eqb h a && (is_thread t && eqb t a)) _ _ (and_right (eqb h a) (is_thread t && eqb t a) (and_right (is_thread t) (eqb t a) (ne_eqb t a (λ q. n (omega arith)))))
    | inr q ↦ cond-false (eqb h a && (is_thread t && eqb t a)) _ _ (and_left (eqb h a) (is_thread t && eqb t a) (ne_eqb h a q))
  ]

  moved_own : (t : ℕ) → (t ≡ a → ⊥) → moved f a b t t ≡ joined f a b t t
  moved_own t n = cond-false (eqb t a && (is_thread t && eqb t a)) _ _ (and_left (eqb t a) (is_thread t && eqb t a) (ne_eqb t a n))

-- the larger of two counts is no less than c if one of them is
leb_max : (c x y : ℕ) → leb c (max x y) ≡ (leb c x || leb c y)
leb_max c x y = grind (arith, nat_tests)

module _ (f : ℕ → ℕ → ℕ) (ep : ℕ → Option Epoch) (n a b : ℕ) (run : Run f ep n) (p : a < 136) (q : b < 136) (few : n < 200000000) where
  -- a thread's own count is not changed by what it hears
  joined_own : (t : ℕ) → t < 8 → joined f a b t t ≡ f t t
  joined_own t l = elim (cases_eq t b) [
    | inl e ↦ elim (cases_eq a t) [
      | inl d ↦ cond-true (eqb t b) _ _ (eq-eqb t b e) ∙ ap₂ (λ (x y : ℕ). max (f x t) (f y t)) (sym e) d ∙ omega arith
      | inr d ↦ cond-true (eqb t b) _ _ (eq-eqb t b e) ∙ ap (λ (x : ℕ). max (f x t) (f a t)) (sym e) ∙ omega (arith, run.ahead a t p l d)
    ]
    | inr d ↦ joined_other f a b t t d
  ]

  -- what another holder then has heard of the thread
  joined_behind : (h t : ℕ) → h < 136 → t < 8 → (h ≡ t → ⊥) → joined f a b h t ≤ f t t
  joined_behind h t l k d = elim (cases_eq h b) [
    | inl e ↦ elim (cases_eq a t) [
      | inl s ↦ let x : f b t < f t t = run.ahead b t q k (λ z. d (e ∙ z)) in let y : f a t ≡ f t t = ap (λ (z : ℕ). f z t) s in
          let j : joined f a b h t ≡ max (f b t) (f a t) = cond-true (eqb h b) _ _ (eq-eqb h b e) in omega arith
      | inr s ↦ let x : f b t < f t t = run.ahead b t q k (λ z. d (e ∙ z)) in let y : f a t < f t t = run.ahead a t p k s in
          let j : joined f a b h t ≡ max (f b t) (f a t) = cond-true (eqb h b) _ _ (eq-eqb h b e) in omega arith
    ]
    | inr e ↦ let x : f h t < f t t = run.ahead h t l k d in let j = joined_other f a b h t e in omega arith
  ]

  joined_before : (h t : ℕ) → h < 136 → t < 8 → (h ≡ t → ⊥) → (a ≡ t → ⊥) → joined f a b h t < f t t
  joined_before h t l k d s = elim (cases_eq h b) [
    | inl e ↦ let x : f b t < f t t = run.ahead b t q k (λ z. d (e ∙ z)) in let y : f a t < f t t = run.ahead a t p k s in
        let j : joined f a b h t ≡ max (f b t) (f a t) = cond-true (eqb h b) _ _ (eq-eqb h b e) in omega arith
    | inr e ↦ let x : f h t < f t t = run.ahead h t l k d in let j = joined_other f a b h t e in omega arith
  ]

  joined_bounded : (h t : ℕ) → h < 136 → t < 8 → joined f a b h t ≤ n + 1
  joined_bounded h t l k = elim (cases_eq h b) [
    | inl e ↦ let j : joined f a b h t ≡ max (f b t) (f a t) = cond-true (eqb h b) _ _ (eq-eqb h b e) in omega (arith, run.bounded a t p k, run.bounded b t q k)
    | inr e ↦ let j = joined_other f a b h t e in omega (arith, run.bounded h t l k)
  ]

  -- a thread that hands over moves on by one: its count is far from running out
  moved_on : (t : ℕ) → t < 8 → t ≡ a → moved f a b t t ≡ joined f a b t t + 1
  moved_on t l e =
      cond-true (eqb t a && (is_thread t && eqb t a)) _ _ (and_from (eqb t a) (is_thread t && eqb t a) (eq-eqb t a e) (and_from (is_thread t) (eqb t a) (lt-ltb t 8 l) (eq-eqb t a e)))
      ∙ (let small = joined_bounded t t (omega arith) l in omega arith)

  -- the thread's own count, moved on if it handed over
  own_after : (t : ℕ) → t < 8 → f t t ≤ moved f a b t t
  own_after t k = elim (cases_eq t a) [
    | inl e ↦ let m = moved_on t k e in let j = joined_own t k in omega arith
    | inr e ↦ let m = moved_own f a b t e in let j = joined_own t k in omega arith
  ]

  ahead_after : (h t : ℕ) → h < 136 → t < 8 → (h ≡ t → ⊥) → moved f a b h t < moved f a b t t
  ahead_after h t l k d = let o = moved_other f a b h t d in let j = joined_own t k in elim (cases_eq t a) [
    | inl e ↦ let m = moved_on t k e in let x = joined_behind h t l k d in omega arith
    | inr e ↦ let m = moved_own f a b t e in let x = joined_before h t l k d (λ s. e (sym s)) in omega arith
  ]

  bounded_after : (h t : ℕ) → h < 136 → t < 8 → moved f a b h t ≤ (n + 1) + 1
  bounded_after h t l k = let x = joined_bounded h t l k in elim (cases_eq h t) [
    | inl e ↦ elim (cases_eq t a) [
      | inl s ↦ let y : moved f a b h t ≡ joined f a b h t + 1 = subst (λ (z : ℕ). moved f a b z t ≡ joined f a b z t + 1) (sym e) (moved_on t k s) in omega arith
      | inr s ↦ let y : moved f a b h t ≡ joined f a b h t = subst (λ (z : ℕ). moved f a b z t ≡ joined f a b z t) (sym e) (moved_own f a b t s) in omega arith
    ]
    | inr e ↦ let y = moved_other f a b h t e in omega arith
  ]

  -- whom an access of thread t at count c, not in its future, has reached after the pass
  reached_after : (h t c : ℕ) → h < 136 → t < 8 → c ≤ f t t → leb c (moved f a b h t) ≡ (leb c (f h t) || (eqb h b && leb c (f a t)))
  reached_after h t c l k past = elim (cases_eq h t) [
    | inl e ↦
        let m : c ≤ moved f a b h t = subst (λ (z : ℕ). c ≤ moved f a b z t) (sym e) (let o = own_after t k in omega arith) in
        let w : c ≤ f h t = subst (λ (z : ℕ). c ≤ f z t) (sym e) past in
        le-leb c (moved f a b h t) m ∙ sym (ap (λ x. x || (eqb h b && leb c (f a t))) (le-leb c (f h t) w))
    | inr d ↦ ap (λ x. leb c x) (moved_other f a b h t d) ∙ elim (cases_eq h b) [
      | inl e ↦
          ap (λ x. leb c x) (cond-true (eqb h b) (max (f b t) (f a t)) (f h t) (eq-eqb h b e))
          ∙ leb_max c (f b t) (f a t)
          ∙ ap (λ (x : ℕ). leb c (f x t) || leb c (f a t)) (sym e)
          ∙ sym (ap (λ x. leb c (f h t) || (x && leb c (f a t))) (eq-eqb h b e))
      | inr e ↦
          ap (λ x. leb c x) (joined_other f a b h t e)
          ∙ sym (or-false (leb c (f h t)))
          ∙ sym (ap (λ x. leb c (f h t) || (x && leb c (f a t))) (ne_eqb h b e))
    ]
  ]

  -- the clocks g that a pass leaves
  module _ (g : ℕ → ℕ → ℕ) (each : (h t : ℕ) → h < 136 → t < 8 → g h t ≡ moved f a b h t) where
    pub run_passed : Run g ep (n + 1)
    run_passed = record {
      ahead = λ h t l k d. let x = each h t l k in let y = each t t (omega arith) k in let z = ahead_after h t l k d in omega arith;
      bounded = λ h t l k. let x = each h t l k in let z = bounded_after h t l k in omega arith;
      past = λ s e l is.
          let w = run.past s e l is in
          let y = each e.thread e.thread (let k = w.0 in omega arith) w.0 in
          let z = own_after e.thread w.0 in
          (w.0, let v = w.1 in omega arith);
    }

    reached_passed : (o : Option Epoch) → ((e : Epoch) → o ≡ Some e → (e.thread < 8) × (e.count ≤ f e.thread e.thread))
        → (h : ℕ) → h < 136 → reached o (g h) ≡ (reached o (f h) || (eqb h b && reached o (f a)))
    reached_passed None past h l = sym (and-false (eqb h b))
    reached_passed (Some e) past h l =
        let w = past e refl in
        ap (λ x. leb e.count x) (each h e.thread l w.0) ∙ reached_after h e.thread e.count l w.0 w.1

    pub sets_passed : (s h : ℕ) → s < 576 → h < 136 → reached (ep s) (g h) ≡ (reached (ep s) (f h) || (eqb h b && reached (ep s) (f a)))
    sets_passed s h k l = reached_passed (ep s) (λ e is. run.past s e k is) h l

-- the epoch of one slot is replaced by v, which is not in the future
pub run_set : (f : ℕ → ℕ → ℕ) (es : List (Option Epoch)) (n slot : ℕ) (v : Option Epoch) → slot < length es
    → ((e : Epoch) → v ≡ Some e → (e.thread < 8) × (e.count ≤ f e.thread e.thread))
    → Run f (λ s. get_or es s None) n → Run f (λ s. get_or (set es slot v) s None) n
run_set f es n slot v within past run = record {
  ahead = run.ahead;
  bounded = run.bounded;
  past = λ s e l is. elim (cases_eq s slot) [
    | inl p ↦ past e (sym (ap (λ (x : ℕ). get_or (set es slot v) x None) p ∙ get_or-set_same es slot v None within) ∙ is)
    | inr d ↦ run.past s e l (sym (get_or-set_other es slot s v None d) ∙ is)
  ];
}

-- an access of thread t at the thread's own time has reached just t
pub reached_only : (f : ℕ → ℕ → ℕ) (ep : ℕ → Option Epoch) (n t : ℕ) → t < 8 → Run f ep n → (h : ℕ) → h < 136 → leb (f t t) (f h t) ≡ eqb h t
reached_only f ep n t k run h l = elim (cases_eq h t) [
  | inl e ↦ le-leb (f t t) (f h t) (let x : f h t ≡ f t t = ap (λ (z : ℕ). f z t) e in omega arith) ∙ sym (eq-eqb h t e)
  | inr d ↦ lt-leb (f t t) (f h t) (run.ahead h t l k d) ∙ sym (ne_eqb h t d)
]

-- the time that thread t's own clock shows is not in its future
pub past_now : (f : ℕ → ℕ → ℕ) (t c : ℕ) → t < 8 → c ≡ f t t → (e : Epoch) → Some (record { thread = t; count = c }) ≡ Some e → (e.thread < 8) × (e.count ≤ f e.thread e.thread)
past_now f t c small own e is =
    let new : Epoch = record { thread = t; count = c } in
    let same : new ≡ e = cc in
    subst (λ (x : Epoch). (x.thread < 8) × (x.count ≤ f x.thread x.thread)) same (small, omega arith)

-- the clocks and epochs that a clear leaves
pub run_cleared : (f : ℕ → ℕ → ℕ) (es : List (Option Epoch)) (n : ℕ) → ((h t : ℕ) → h < 136 → t < 8 → f h t ≡ cond (eqb h t) 1 0) → es ≡ replicate 576 None → n ≡ 0 → Run f (λ s. get_or es s None) n
run_cleared f es n each none zero = record {
  ahead = λ h t l k d. let x = each h t l k ∙ cond-false (eqb h t) 1 0 (ne_eqb h t d) in let y = each t t (omega arith) k ∙ cond-true (eqb t t) 1 0 (eq-eqb t t refl) in omega arith;
  bounded = λ h t l k. elim (cases_eq h t) [
    | inl e ↦ let x = each h t l k ∙ cond-true (eqb h t) 1 0 (eq-eqb h t e) in omega arith
    | inr d ↦ let x = each h t l k ∙ cond-false (eqb h t) 1 0 (ne_eqb h t d) in omega arith
  ];
  past = λ s e l is. absurd (let r = ap (λ (xs : List (Option Epoch)). get_or xs s None) none ∙ get_or-replicate 576 s None None l in let z : ◌≡◌ {A = ℕ} 0 1 = cc in omega arith);
}
