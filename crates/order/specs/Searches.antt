-- Searches over numbers. Assumes nothing.
--   some_below n f     f holds of some number below n
--   first_from n k f   the first answer of f among n numbers from k on
--   or_else a b        a, or b where a is none
--   first_true n bs    the number of the first test that passes, the tests numbered from n
use Rattle.std.specs.Prelude.{ℕ, zero, suc, ◌+◌, Bool, false, cond, ◌||◌, List, [], ◌∷◌, Some, None, Option}

unfoldable pub some_below : ℕ → (ℕ → Bool) → Bool
some_below zero f = false
some_below (suc n) f = f n || some_below n f

abbrev pub or_else : {A : Type 0} → Option A → Option A → Option A
or_else (Some a) b = Some a
or_else None b = b

unfoldable pub first_from : {A : Type 0} → ℕ → ℕ → (ℕ → Option A) → Option A
first_from zero k f = None
first_from (suc n) k f = or_else (f k) (first_from n (k + 1) f)

unfoldable pub first_true : ℕ → List Bool → Option ℕ
first_true n [] = None
first_true n (b ∷ bs) = cond b (Some n) (first_true (n + 1) bs)
