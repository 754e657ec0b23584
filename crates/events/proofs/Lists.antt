-- Lists of the numbers that pass a test. Assumes nothing.
use Rattle.std.proofs.Common.{◌≡◌, ℕ, zero, suc, ◌<◌, ◌≤◌, Bool, true, false, cond, List, [], ◌∷◌, ◌++◌, refl, sym, ap, ap₂, ◌∙◌, inl, inr, arith}
use Rattle.std.proofs.lemmas.Bool.{cases_lt}
use Rattle.events.specs.Places.{those_below}

abbrev last : ℕ → Bool → List ℕ
last n b = cond b (n ∷ []) []

pub those_none : (n : ℕ) (f : ℕ → Bool) → ((i : ℕ) → i < n → f i ≡ false) → those_below n f ≡ []
unfolding those_below
those_none zero f none = refl
those_none (suc n) f none = ap₂ (λ xs b. xs ++ last n b) (those_none n f (λ i l. none i (omega arith))) (none n (omega arith))

-- f passes t first; g passes what f passes after it
pub those_first : (n t : ℕ) (f g : ℕ → Bool) → t < n → ((i : ℕ) → i < t → f i ≡ false) → f t ≡ true → ((i : ℕ) → i ≤ t → g i ≡ false) → ((i : ℕ) → t < i → g i ≡ f i) → those_below n f ≡ t ∷ those_below n g
unfolding those_below
those_first zero t f g l none here gone same = absurd (omega arith)
those_first (suc n) t f g l none here gone same =
    elim (cases_lt t n) [
      | inl below ↦ ap₂ (λ xs b. xs ++ last n b) (those_first n t f g below none here gone same) (sym (same n below))
      | inr from ↦ (
          let is : n ≡ t = omega arith in
          ap₂ (λ xs b. xs ++ last n b) (those_none n f (λ i b. none i (omega arith))) (ap f is ∙ here)
          ∙ ap (λ m. m ∷ []) is
          ∙ ap (λ xs. t ∷ xs) (sym (ap₂ (λ xs b. xs ++ last n b) (those_none n g (λ i b. gone i (omega arith))) (gone n (omega arith)))))
    ]
