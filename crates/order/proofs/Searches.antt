-- What the searches over numbers find. Assumes nothing.
use Rattle.std.proofs.Common.{◌≡◌, ℕ, zero, suc, ◌+◌, ◌<◌, ◌≤◌, Bool, true, false, ◌⊎◌, List, [], ◌∷◌, get_or, Some, None, Decides, Option, refl, ap, ◌∙◌, subst, inl, inr, arith}
use Rattle.std.proofs.lemmas.Bool.Decides.{Decides-below_or}
use Rattle.std.proofs.lemmas.Bool.{cases_Bool, cases_eq, cond-true, cond-false}
use Rattle.order.specs.Searches.{some_below, first_from, first_true, or_else}
use Rattle.order.proofs.Options.{option_cases, mapped, mapped_or_else}

some_below_decides : (n : ℕ) (f : ℕ → Bool) → Decides (some_below n f) ((k : ℕ) × (k < n) × (f k ≡ true))
unfolding some_below
some_below_decides n f = Decides-below_or f (λ k. f k ≡ true) (λ m. some_below m f) (λ k. (λ x. x, λ x. x)) refl (λ _. refl) n

pub some_below_found : (n : ℕ) (f : ℕ → Bool) → some_below n f ≡ true → (k : ℕ) × (k < n) × (f k ≡ true)
some_below_found n f = (some_below_decides n f).0

pub some_below_from : (n : ℕ) (f : ℕ → Bool) (k : ℕ) → k < n → f k ≡ true → some_below n f ≡ true
some_below_from n f k l h = (some_below_decides n f).1 (k, l, h)

-- the first answer a of f among n numbers from k on, and where it is
pub record First {A : Type 0} (f : ℕ → Option A) (n k : ℕ) (a : A) : Type 0 where
  pub at : ℕ
  pub from : k ≤ at
  pub below : at < k + n
  pub is : f at ≡ Some a
  pub none : (j : ℕ) → k ≤ j → j < at → f j ≡ None

module _ {A : Type 0} (f : ℕ → Option A) where
  first_here : (n k : ℕ) (a : A) → f k ≡ Some a → First f (suc n) k a
  first_here n k a q = record { at = k; from = omega arith; below = omega arith; is = q; none = λ j l m. absurd (omega arith) }

  none_at : (n k : ℕ) → f k ≡ None → ((m : ℕ) → k + 1 ≤ m → m < k + 1 + n → f m ≡ None) → (m : ℕ) → k ≤ m → m < k + suc n → f m ≡ None
  none_at n k q rest m l h =
      elim (cases_eq k m) [ inl same ↦ subst (λ x. f x ≡ None) same q | inr other ↦ rest m (omega arith) (omega arith) ]

  first_later : (n k : ℕ) (a : A) → f k ≡ None → First f n (k + 1) a → First f (suc n) k a
  first_later n k a q r =
      let l = r.from in
      let h = r.below in
      record {
        at = r.at;
        from = omega arith;
        below = omega arith;
        is = r.is;
        none = λ j m m'. elim (cases_eq k j) [ inl same ↦ subst (λ x. f x ≡ None) same q | inr other ↦ r.none j (omega arith) m' ];
      }

  pub first_from_cases : (n k : ℕ) → ((a : A) × (first_from n k f ≡ Some a) × First f n k a) ⊎ ((first_from n k f ≡ None) × ((m : ℕ) → k ≤ m → m < k + n → f m ≡ None))
  unfolding first_from
  first_from_cases zero k = inr (refl, λ m l h. absurd (omega arith))
  first_from_cases (suc n) k =
      elim (option_cases (f k)) [
        | inr q ↦ inl (q.0, ap (λ o. or_else o (first_from n (k + 1) f)) q.1, first_here n k q.0 q.1)
        | inl q ↦ elim (first_from_cases n (k + 1)) [
          | inl r ↦ inl (r.0, ap (λ o. or_else o (first_from n (k + 1) f)) q ∙ r.1, first_later n k r.0 q r.2)
          | inr r ↦ inr (ap (λ o. or_else o (first_from n (k + 1) f)) q ∙ r.0, none_at n k q r.1)
        ]
      ]

-- searches with the same answers find the same
pub first_from_same : {A : Type 0} (f g : ℕ → Option A) (n k : ℕ) → ((m : ℕ) → k ≤ m → m < k + n → f m ≡ g m) → first_from n k f ≡ first_from n k g
unfolding first_from
first_from_same f g zero k h = refl
first_from_same f g (suc n) k h =
    λ i. or_else (h k (omega arith) (omega arith) i) (first_from_same f g n (k + 1) (λ m l l'. h m (omega arith) (omega arith)) i)

pub first_from_mapped : {A B : Type 0} (c : A → B) (f : ℕ → Option A) (n k : ℕ) → mapped c (first_from n k f) ≡ first_from n k (λ m. mapped c (f m))
unfolding first_from
first_from_mapped c f zero k = refl
first_from_mapped c f (suc n) k =
    mapped_or_else c (f k) (first_from n (k + 1) f) ∙ ap (or_else (mapped c (f k))) (first_from_mapped c f n (k + 1))

-- the first test that passes, or none does
pub first_true_cases : (n : ℕ) (bs : List Bool) → ((k : ℕ) × (first_true n bs ≡ Some (n + k)) × (get_or bs k false ≡ true) × ((j : ℕ) → j < k → get_or bs j false ≡ false)) ⊎ ((first_true n bs ≡ None) × ((k : ℕ) → get_or bs k false ≡ false))
unfolding first_true
first_true_cases n [] = inr (refl, λ k. refl)
first_true_cases n (b ∷ bs) =
    elim (cases_Bool b) [
      | inl q ↦ inl (0, cond-true b _ _ q ∙ ap {B = Option ℕ} Some (omega arith), q, λ j l. absurd (omega arith))
      | inr q ↦ elim (first_true_cases (n + 1) bs) [
        | inl r ↦
            inl (suc r.0, cond-false b _ _ q ∙ r.1 ∙ ap {B = Option ℕ} Some (omega arith), r.2, elim [ zero ↦ λ l. q | suc j ↦ λ l. r.3 j (omega arith) ])
        | inr r ↦ inr (cond-false b _ _ q ∙ r.0, elim [ zero ↦ q | suc k ↦ r.1 k ])
      ]
    ]
