-- Bytes laid into a buffer, one run behind another. Assumes nothing.
use Rattle.std.proofs.Common.{◌≡◌, ℕ, ◌+◌, ◌≤◌, List, [], ◌++◌, length, take, drop, sym, refl, ap, ◌∙◌, arith}
use borrow.Rule.Slice.PartMut.{put_mid}
use lib.Seq.{paste}
use Rattle.std.proofs.lemmas.List.{drop-drop, length-append, take-append-drop}
use Rattle.std.proofs.lemmas.List.Edits.{paste_all, paste-paste, length-paste}
use Rattle.trace.specs.File.{laid}

laid_is : (d : List ℕ) (at : ℕ) (bs : List ℕ) → laid d at bs ≡ paste d at bs (length bs)
unfolding laid
laid_is d at bs = sym (paste_all d at bs (length bs) refl)

-- after a write to `d[at..at + k]`
pub laid_put : (d : List ℕ) (at k : ℕ) (bs ys : List ℕ) → ys ≡ bs → k ≡ length bs → put_mid at k d ys ≡ laid d at bs
unfolding laid
laid_put d at k bs ys e n =
    ap (λ l. take at d ++ (l ++ drop k (drop at d))) e ∙ ap (λ l. take at d ++ (bs ++ l)) (drop-drop k at d ∙ ap (λ m. drop (at + m) d) n)

pub length_laid : (d : List ℕ) (at : ℕ) (bs : List ℕ) → at + length bs ≤ length d → length (laid d at bs) ≡ length d
length_laid d at bs h = ap length (laid_is d at bs) ∙ length-paste d at bs (length bs) h (omega arith)

-- a second run behind the first
pub laid_more : (d : List ℕ) (at k : ℕ) (xs ys : List ℕ) → k ≡ at + length xs → at ≤ length d → laid (laid d at xs) k ys ≡ laid d at (xs ++ ys)
laid_more d at k xs ys e h =
    ap (λ m. laid (laid d at xs) m ys) e
    ∙ laid_is (laid d at xs) (at + length xs) ys
    ∙ ap (λ l. paste l (at + length xs) ys (length ys)) (laid_is d at xs)
    ∙ paste-paste d at xs ys (length xs) (length ys) refl refl h
    ∙ ap (paste d at (xs ++ ys)) (sym (length-append xs ys))
    ∙ sym (laid_is d at (xs ++ ys))

pub laid_none : (d : List ℕ) (at : ℕ) → laid d at [] ≡ d
unfolding laid
laid_none d at = ap (λ m. take at d ++ drop m d) (let e : at + 0 ≡ at = omega arith in e) ∙ take-append-drop at d

pub laid_first : (d bs : List ℕ) → laid d 0 bs ≡ bs ++ drop (length bs) d
unfolding laid
laid_first d bs = ap (λ n. bs ++ drop n d) (let e : 0 + length bs ≡ length bs = omega arith in e)
