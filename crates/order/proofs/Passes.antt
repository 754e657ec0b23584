-- Passes between one thread and a list of holders, as a whole: what joins a set. Assumes nothing.
use Rattle.std.proofs.Common.{◌≡◌, ℕ, zero, suc, ◌+◌, ◌<◌, Bool, true, false, cond, ◌&&◌, ◌||◌, eqb, ◌⊎◌, List, [], ◌∷◌, ◌++◌, map, sym, refl, ap, ◌∙◌, inl, inr, arith}
use Rattle.std.proofs.lemmas.Bool.{cases_eq, or_cases, or_left, or_right, and_parts, and_from, eq-eqb, eqb-true, false≢true}
use Rattle.events.specs.Places.{those_below}
use Rattle.events.specs.declared.Event.{Event}
use Rattle.order.specs.Slots.{Set, changed, taken, given}

-- nobody, just t, and the set s after a pass from a to b: b joins a set that has a
abbrev pub nobody : Set
nobody h = false

abbrev pub only : ℕ → Set
only t h = eqb h t

abbrev pub passed : ℕ → ℕ → Set → Set
passed a b s h = s h || eqb h b && s a

-- a set after a pass from each of a list of holders to t, or from t to each
unfoldable pub pass_in : ℕ → List ℕ → Set → Set
pass_in t [] s = s
pass_in t (h ∷ hs) s = pass_in t hs (passed h t s)

unfoldable pub pass_out : ℕ → List ℕ → Set → Set
pass_out t [] s = s
pass_out t (h ∷ hs) s = pass_out t hs (passed t h s)

-- the set of slot k of p after e: passes in, the access, passes out
unfoldable pub worked : Event → ℕ → ℕ → Set → Set
worked e p k s =
    pass_out e.thread (given e.action) (changed e p k (only e.thread) nobody (pass_in e.thread (taken e.action) s))

abbrev pub has : List ℕ → ℕ → Bool
has [] x = false
has (k ∷ ks) x = eqb k x || has ks x

pub passed_cases : (a b : ℕ) (s : Set) (h : ℕ) → passed a b s h ≡ true → (s h ≡ true) ⊎ ((h ≡ b) × (s a ≡ true))
passed_cases a b s h q =
    elim (or_cases (s h) (eqb h b && s a) q) [
      | inl r ↦ inl r
      | inr r ↦ (let both = and_parts (eqb h b) (s a) r in inr (eqb-true h b both.0, both.1))
    ]

pub passed_kept : (a b : ℕ) (s : Set) (h : ℕ) → s h ≡ true → passed a b s h ≡ true
passed_kept a b s h q = or_left (s h) _ q

pub passed_new : (a b : ℕ) (s : Set) (h : ℕ) → h ≡ b → s a ≡ true → passed a b s h ≡ true
passed_new a b s h q r = or_right (s h) (eqb h b && s a) (and_from (eqb h b) (s a) (eq-eqb h b q) r)

-- t joins a set that has one of the holders from which the passes go
abbrev pub SomeIn : List ℕ → Set → Type 0
SomeIn hs s = (a : ℕ) × (has hs a ≡ true) × (s a ≡ true)

pub pass_in_cases : (t : ℕ) (hs : List ℕ) (s : Set) (h : ℕ) → pass_in t hs s h ≡ true → (s h ≡ true) ⊎ ((h ≡ t) × SomeIn hs s)
unfolding pass_in
pass_in_cases t [] s h q = inl q
pass_in_cases t (k ∷ ks) s h q =
    let here : s k ≡ true → SomeIn (k ∷ ks) s = λ r. (k, or_left (eqb k k) _ (eq-eqb k k refl), r) in
    elim (pass_in_cases t ks (passed k t s) h q) [
      | inl r ↦ elim (passed_cases k t s h r) [ inl a ↦ inl a | inr a ↦ inr (a.0, here a.1) ]
      | inr r ↦
          elim (passed_cases k t s r.1.0 r.1.2) [
            | inl a ↦ inr (r.0, (r.1.0, or_right (eqb k r.1.0) _ r.1.1, a))
            | inr a ↦ inr (r.0, here a.1)
          ]
    ]

pub pass_in_kept : (t : ℕ) (hs : List ℕ) (s : Set) (h : ℕ) → s h ≡ true → pass_in t hs s h ≡ true
unfolding pass_in
pass_in_kept t [] s h q = q
pass_in_kept t (k ∷ ks) s h q = pass_in_kept t ks (passed k t s) h (passed_kept k t s h q)

pub pass_in_new : (t : ℕ) (hs : List ℕ) (s : Set) → SomeIn hs s → pass_in t hs s t ≡ true
unfolding pass_in
pass_in_new t [] s q = absurd (false≢true q.1)
pass_in_new t (k ∷ ks) s q =
    elim (or_cases (eqb k q.0) (has ks q.0) q.1) [
      | inl r ↦ pass_in_kept t ks (passed k t s) t (passed_new k t s t refl (ap s (eqb-true k q.0 r) ∙ q.2))
      | inr r ↦ pass_in_new t ks (passed k t s) (q.0, r, passed_kept k t s q.0 q.2)
    ]

-- the holders to which the passes go join a set that has t
pub pass_out_cases : (t : ℕ) (hs : List ℕ) (s : Set) (h : ℕ) → pass_out t hs s h ≡ true → (s h ≡ true) ⊎ ((has hs h ≡ true) × (s t ≡ true))
unfolding pass_out
pass_out_cases t [] s h q = inl q
pass_out_cases t (k ∷ ks) s h q =
    elim (pass_out_cases t ks (passed t k s) h q) [
      | inl r ↦ elim (passed_cases t k s h r) [
        | inl a ↦ inl a
        | inr a ↦ inr (or_left (eqb k h) _ (eq-eqb k h (sym a.0)), a.1)
      ]
      | inr r ↦ inr (or_right (eqb k h) _ r.0, elim (passed_cases t k s t r.1) [ inl a ↦ a | inr a ↦ a.1 ])
    ]

pub pass_out_kept : (t : ℕ) (hs : List ℕ) (s : Set) (h : ℕ) → s h ≡ true → pass_out t hs s h ≡ true
unfolding pass_out
pass_out_kept t [] s h q = q
pass_out_kept t (k ∷ ks) s h q = pass_out_kept t ks (passed t k s) h (passed_kept t k s h q)

pub pass_out_new : (t : ℕ) (hs : List ℕ) (s : Set) (h : ℕ) → has hs h ≡ true → s t ≡ true → pass_out t hs s h ≡ true
unfolding pass_out
pass_out_new t [] s h q r = absurd (false≢true q)
pass_out_new t (k ∷ ks) s h q r =
    elim (or_cases (eqb k h) (has ks h) q) [
      | inl a ↦ pass_out_kept t ks (passed t k s) h (passed_new t k s h (sym (eqb-true k h a)) r)
      | inr a ↦ pass_out_new t ks (passed t k s) h a (passed_kept t k s t r)
    ]

-- membership in the lists of holders
has_append : (ks ls : List ℕ) (x : ℕ) → has (ks ++ ls) x ≡ (has ks x || has ls x)
has_append [] ls x = refl
has_append (k ∷ ks) ls x = go (eqb k x) (has_append ks ls x)
  where
    go : (b : Bool) → has (ks ++ ls) x ≡ (has ks x || has ls x) → (b || has (ks ++ ls) x) ≡ (b || has ks x || has ls x)
    go true h = refl
    go false h = h

pub has_cases : (ks ls : List ℕ) (x : ℕ) → has (ks ++ ls) x ≡ true → (has ks x ≡ true) ⊎ (has ls x ≡ true)
has_cases ks ls x h = or_cases (has ks x) (has ls x) (sym (has_append ks ls x) ∙ h)

pub has_left : (ks ls : List ℕ) (x : ℕ) → has ks x ≡ true → has (ks ++ ls) x ≡ true
has_left ks ls x h = has_append ks ls x ∙ or_left (has ks x) (has ls x) h

pub has_right : (ks ls : List ℕ) (x : ℕ) → has ls x ≡ true → has (ks ++ ls) x ≡ true
has_right ks ls x h = has_append ks ls x ∙ or_right (has ks x) (has ls x) h

pub has_shifted : (c : ℕ) (ks : List ℕ) (x : ℕ) → has ks x ≡ true → has (map (λ p. c + p) ks) (c + x) ≡ true
has_shifted c [] x h = absurd (false≢true h)
has_shifted c (k ∷ ks) x h =
    elim (or_cases (eqb k x) (has ks x) h) [
      | inl q ↦ or_left (eqb (c + k) (c + x)) _ (eq-eqb (c + k) (c + x) (ap (λ y. c + y) (eqb-true k x q)))
      | inr q ↦ or_right (eqb (c + k) (c + x)) _ (has_shifted c ks x q)
    ]

pub has_unshifted : (c : ℕ) (ks : List ℕ) (x : ℕ) → has (map (λ p. c + p) ks) x ≡ true → (p : ℕ) × (x ≡ c + p) × (has ks p ≡ true)
has_unshifted c [] x h = absurd (false≢true h)
has_unshifted c (k ∷ ks) x h =
    elim (or_cases (eqb (c + k) x) (has (map (λ p. c + p) ks) x) h) [
      | inl q ↦ (k, sym (eqb-true (c + k) x q), or_left (eqb k k) _ (eq-eqb k k refl))
      | inr q ↦ (let r = has_unshifted c ks x q in (r.0, r.1, or_right (eqb k r.0) _ r.2))
    ]

pub those_below_has : (n : ℕ) (f : ℕ → Bool) (x : ℕ) → has (those_below n f) x ≡ true → (x < n) × (f x ≡ true)
unfolding those_below
those_below_has zero f x h = absurd (false≢true h)
those_below_has (suc n) f x h =
    elim (has_cases (those_below n f) (cond (f n) (n ∷ []) []) x h) [
      | inl q ↦ (let r = those_below_has n f x q in let l = r.0 in (omega arith, r.1))
      | inr q ↦ go (f n) refl q
    ]
  where
    go : (b : Bool) → f n ≡ b → has (cond b (n ∷ []) []) x ≡ true → (x < suc n) × (f x ≡ true)
    go true r q =
        let same = elim (or_cases (eqb n x) false q) as (λ _. n ≡ x) [ inl a ↦ eqb-true n x a | inr a ↦ absurd (false≢true a) ] in
        (omega arith, ap f (sym same) ∙ r)
    go false r q = absurd (false≢true q)

pub has_those_below : (n : ℕ) (f : ℕ → Bool) (x : ℕ) → x < n → f x ≡ true → has (those_below n f) x ≡ true
unfolding those_below
has_those_below zero f x l h = absurd (omega arith)
has_those_below (suc n) f x l h =
    elim (cases_eq n x) [
      | inl q ↦ has_right (those_below n f) _ x (ap (λ b. has (cond b (n ∷ []) []) x) (ap f q ∙ h) ∙ or_left (eqb n x) false (eq-eqb n x q))
      | inr q ↦ has_left (those_below n f) _ x (has_those_below n f x (omega arith) h)
    ]
