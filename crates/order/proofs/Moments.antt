-- Lists in which a position stands at most once: when it comes, and what comes before it. Assumes nothing.
use Rattle.std.proofs.Common.{◌≡◌, ℕ, zero, suc, ◌+◌, ◌<◌, ◌≤◌, Bool, true, false, cond, eqb, ltb, ◌⊎◌, List, [], ◌∷◌, length, Some, None, refl, ap, ◌∙◌, subst, inl, inr, arith}
use Rattle.std.proofs.lemmas.Bool.{cases_Bool, cases_eq, cond-true, cond-false, eq-eqb, ne_eqb, both_ways}
use Rattle.std.proofs.lemmas.Bool.Decides.{nat_tests}
use Rattle.order.specs.Rearrangements.{times, when, past, newest, positions}

module _ (x : ℕ) (ks : List ℕ) where
  times_same : times (x ∷ ks) x ≡ 1 + times ks x
  unfolding times
  times_same = ap (λ n. n + times ks x) (cond-true _ 1 0 (eq-eqb x x refl))

  times_other : (k : ℕ) → (x ≡ k → ⊥) → times (x ∷ ks) k ≡ times ks k
  unfolding times
  times_other k q = ap (λ n. n + times ks k) (cond-false _ 1 0 (ne_eqb x k q)) ∙ omega arith

  when_same : when (x ∷ ks) x ≡ length ks
  unfolding when
  when_same = cond-true _ _ _ (eq-eqb x x refl)

  when_other : (k : ℕ) → (x ≡ k → ⊥) → when (x ∷ ks) k ≡ when ks k
  unfolding when
  when_other k q = cond-false _ _ _ (ne_eqb x k q)

  past_same : past (x ∷ ks) x ≡ ks
  unfolding past
  past_same = cond-true _ _ _ (eq-eqb x x refl)

  past_other : (k : ℕ) → (x ≡ k → ⊥) → past (x ∷ ks) k ≡ past ks k
  unfolding past
  past_other k q = cond-false _ _ _ (ne_eqb x k q)

pub when_within : (ks : List ℕ) (k : ℕ) → 0 < times ks k → when ks k < length ks
unfolding times
when_within [] k h = absurd (omega arith)
when_within (x ∷ ks) k h =
    elim (cases_eq x k) [
      | inl q ↦ (let w = when_same x ks in subst (λ y. when (x ∷ ks) y < suc (length ks)) q (omega arith))
      | inr q ↦
          let t = times_other x ks k q in
          let w = when_other x ks k q in
          let ih = when_within ks k (rw t at h) in
          omega arith
    ]

-- the newest of the positions that pass the test, w, comes last of them
pub record Newest (f : ℕ → Bool) (ks : List ℕ) (w : ℕ) : Type 0 where
  pub is : newest f ks ≡ Some w
  pub holds : f w ≡ true
  pub there : 0 < times ks w
  pub last : (k : ℕ) → f k ≡ true → 0 < times ks k → when ks k ≤ when ks w

module _ (f : ℕ → Bool) where
  newest_here : (x : ℕ) (ks : List ℕ) → f x ≡ true → Newest f (x ∷ ks) x
  unfolding newest
  newest_here x ks h =
      let w = when_same x ks in
      let t = times_same x ks in
      record { is = cond-true _ _ _ h; holds = h; there = omega arith; last = λ k g l. let m = when_within (x ∷ ks) k l in omega arith }

  apart : (x : ℕ) → f x ≡ false → (k : ℕ) → f k ≡ true → x ≡ k → ⊥
  apart x h k g q = both_ways (f x) h (ap f q ∙ g)

  newest_later : (x : ℕ) (ks : List ℕ) → f x ≡ false → (w : ℕ) → Newest f ks w → Newest f (x ∷ ks) w
  unfolding newest
  newest_later x ks h w m =
      let other = apart x h w m.holds in
      record {
        is = cond-false _ _ _ h ∙ m.is;
        holds = m.holds;
        there = rw (times_other x ks w other) m.there;
        last = λ k g l. rw (when_other x ks w other, when_other x ks k (apart x h k g)) (m.last k g (rw (times_other x ks k (apart x h k g)) at l));
      }

  pub newest_cases : (ks : List ℕ) → ((w : ℕ) × Newest f ks w) ⊎ ((newest f ks ≡ None) × ((k : ℕ) → f k ≡ true → 0 < times ks k → ⊥))
  unfolding newest times
  newest_cases [] = inr (refl, λ k h l. omega arith)
  newest_cases (x ∷ ks) =
      elim (cases_Bool (f x)) [
        | inl h ↦ inl (x, newest_here x ks h)
        | inr h ↦ elim (newest_cases ks) [
          | inl m ↦ inl (m.0, newest_later x ks h m.0 m.1)
          | inr m ↦ inr (cond-false _ _ _ h ∙ m.0, λ k g l. m.1 k g (rw (times_other x ks k (apart x h k g)) at l))
        ]
      ]

-- no position stands there twice
abbrev pub Single : List ℕ → Type 0
Single ks = (i : ℕ) → times ks i ≤ 1

single_rest : (x : ℕ) (ks : List ℕ) → Single (x ∷ ks) → Single ks
single_rest x ks d i =
    let l = d i in
    elim (cases_eq x i) [
      | inl q ↦ (let t = subst (λ y. times (x ∷ ks) y ≡ 1 + times ks y) q (times_same x ks) in omega arith)
      | inr q ↦ (let t = times_other x ks i q in omega arith)
    ]

single_first : (x : ℕ) (ks : List ℕ) → Single (x ∷ ks) → (k : ℕ) → 0 < times ks k → x ≡ k → ⊥
single_first x ks d k l q =
    let t = times_same x ks in
    let m = d x in
    let z = ap (times ks) q in
    omega arith

-- k comes before j: it stands in the past of j, where it comes as it does in the whole list
pub record Earlier (ks : List ℕ) (j k : ℕ) : Type 0 where
  pub there : 0 < times ks k
  pub sooner : when ks k < when ks j
  pub same : when (past ks j) k ≡ when ks k

pub past_earlier : (ks : List ℕ) (j k : ℕ) → Single ks → 0 < times ks j → 0 < times (past ks j) k → Earlier ks j k
unfolding times
past_earlier [] j k d h l = absurd (omega arith)
past_earlier (x ∷ ks) j k d h l =
    elim (cases_eq x j) [
      | inl q ↦ subst (λ y. Earlier (x ∷ ks) y k) q (at_first (rw (← q, past_same x ks) at l))
      | inr q ↦ later q (past_earlier ks j k (single_rest x ks d) (rw (times_other x ks j q) at h) (rw (past_other x ks j q) at l))
    ]
  where
    at_first : 0 < times ks k → Earlier (x ∷ ks) x k
    at_first m =
        let other = single_first x ks d k m in
        record {
          there = rw (times_other x ks k other) m;
          sooner = rw (when_other x ks k other, when_same x ks) (when_within ks k m);
          same = rw (past_same x ks, when_other x ks k other);
        }

    later : (x ≡ j → ⊥) → Earlier ks j k → Earlier (x ∷ ks) j k
    later q r =
        let other = single_first x ks d k r.there in
        record {
          there = rw (times_other x ks k other) r.there;
          sooner = rw (when_other x ks k other, when_other x ks j q) r.sooner;
          same = rw (past_other x ks j q, when_other x ks k other) r.same;
        }

pub earlier_past : (ks : List ℕ) (j k : ℕ) → 0 < times ks j → 0 < times ks k → when ks k < when ks j → 0 < times (past ks j) k
unfolding times
earlier_past [] j k h m l = absurd (omega arith)
earlier_past (x ∷ ks) j k h m l =
    elim (cases_eq x j) [
      | inl q ↦ rw (← q, past_same x ks) (at_first (rw (← q) at l))
      | inr q ↦ later q (λ r s. earlier_past ks j k (rw (times_other x ks j q) at h) r s)
    ]
  where
    at_first : when (x ∷ ks) k < when (x ∷ ks) x → 0 < times ks k
    at_first s =
        elim (cases_eq x k) [ inl q ↦ (let z = ap (when (x ∷ ks)) q in absurd (omega arith)) | inr q ↦ rw (times_other x ks k q) at m ]

    later : (x ≡ j → ⊥) → (0 < times ks k → when ks k < when ks j → 0 < times (past ks j) k) → 0 < times (past (x ∷ ks) j) k
    later q ih =
        let inside = when_within ks j (rw (times_other x ks j q) at h) in
        let wj = when_other x ks j q in
        let wx = when_same x ks in
        let other : x ≡ k → ⊥ = λ r. let z = ap (when (x ∷ ks)) r in omega arith in
        rw (past_other x ks j q) (ih (rw (times_other x ks k other) at m) (rw (when_other x ks k other, wj) at l))

-- the record's own order
pub length_positions : (n : ℕ) → length (positions n) ≡ n
unfolding positions
length_positions zero = refl
length_positions (suc n) = ap suc (length_positions n)

pub times_positions : (n i : ℕ) → times (positions n) i ≡ cond (ltb i n) 1 0
unfolding positions times
times_positions zero i = grind (arith, nat_tests)
times_positions (suc n) i = ap (λ m. cond (eqb n i) 1 0 + m) (times_positions n i) ∙ grind (arith, nat_tests)

pub when_positions : (n i : ℕ) → i < n → when (positions n) i ≡ i
unfolding positions
when_positions zero i l = absurd (omega arith)
when_positions (suc n) i l =
    elim (cases_eq n i) [
      | inl q ↦ subst (λ y. when (n ∷ positions n) y ≡ y) q (when_same n (positions n) ∙ length_positions n)
      | inr q ↦ when_other n (positions n) i q ∙ when_positions n i (omega arith)
    ]
