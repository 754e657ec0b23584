-- What a word's lowest set bit says of the set that the word stands for. Assumes nothing.
use Rattle.std.proofs.Common.{◌≡◌, ℕ, zero, suc, ◌+◌, ◌-◌, ◌/◌, ◌%◌, ◌^◌, ◌<◌, ◌≤◌, ◌≢◌, min, true, false, ◌&&◌, [], ◌∷◌, Some, inl, inr, eqb, ltb, ◌==◌, nat_lt, bit_and, w64, sym, ap, ◌∙◌, arith, div-le_self}
use Rattle.std.specs.Int.{bit_at, trailing_zeros}
use Rattle.std.proofs.lemmas.Nat.{shr-shr}
use Rattle.std.proofs.lemmas.Nat.Bits.{bit_at_lowest, bit_at-suc, bit_at-zero, bit_at_and, bit_at_above, bit_at-trailing_zeros}
use Rattle.std.proofs.lemmas.Bool.{eq-eqb, ne_eqb, lt-ltb, and_right, cases_lt}
use Rattle.events.specs.Places.{member, NoneBetween, NextPlace, those_below}
use Rattle.events.proofs.Lists.{those_none, those_first}

is_member : (w p : ℕ) → p < 64 → bit_at w p ≡ 1 → member w p ≡ true
is_member w p l one = ap (λ b. b && eqb (w / 2 ^ p % 2) 1) (lt-ltb p 64 l) ∙ eq-eqb _ 1 one

no_member : (w p : ℕ) → bit_at w p ≡ 0 → member w p ≡ false
no_member w p none = and_right (ltb p 64) _ (ne_eqb (w / 2 ^ p % 2) 1 (λ one. omega arith))

-- a word of 64 bits has no other
within : (w p : ℕ) → w < 2 ^ 64 → bit_at w p ≡ 1 → p < 64
within w p l one = elim (cases_lt p 64) [ inl near ↦ near | inr far ↦ absurd (omega (arith, bit_at_above w 64 p l far)) ]

-- r has the bits of the word from place n on
module _ (w n r : ℕ) (is : r ≡ w / 2 ^ n) where
  bit_from : (p : ℕ) → n ≤ p → bit_at r (p - n) ≡ bit_at w p
  bit_from p l = ap (λ x. bit_at x (p - n)) is ∙ ap (λ x. x % 2) (shr-shr w n (p - n)) ∙ ap (bit_at w) (omega arith)

  pub none_from : r ≡ 0 → NoneBetween w n 64
  none_from e p from below = no_member w p (sym (bit_from p from) ∙ ap (λ x. bit_at x (p - n)) e ∙ bit_at-zero (p - n))

  pub lowest_from : w < 2 ^ 64 → r ≢ 0 → NextPlace w n (Some (n + trailing_zeros w64 r))
  lowest_from l some =
      let z = trailing_zeros w64 r in
      let small : r ≤ w = omega (arith, div-le_self w (2 ^ n)) in
      let low = bit_at-trailing_zeros w64 r (omega arith) (omega arith) in
      let one : bit_at w (n + z) ≡ 1 = sym (bit_from (n + z) (omega arith)) ∙ ap (bit_at r) (omega arith) ∙ low.1 in
      (omega arith, within w (n + z) l one, is_member w (n + z) (within w (n + z) l one) one, λ p from below. no_member w p (sym (bit_from p from) ∙ low.2 (p - n) (omega arith)))

-- one less than w has not w's lowest set bit t, and has the same bits above it
less : (t w : ℕ) → bit_at w t ≡ 1 → ((i : ℕ) → i < t → bit_at w i ≡ 0) → (bit_at (w - 1) t ≡ 0) × ((i : ℕ) → t < i → bit_at (w - 1) i ≡ bit_at w i)
less zero w one none = (omega (arith, bit_at_lowest w, bit_at_lowest (w - 1)), above)
  where
    above : (i : ℕ) → 0 < i → bit_at (w - 1) i ≡ bit_at w i
    above zero l = absurd (omega arith)
    above (suc i) l = bit_at-suc (w - 1) i ∙ ap (λ x. bit_at x i) (omega (arith, bit_at_lowest w)) ∙ sym (bit_at-suc w i)
less (suc t) w one none =
    let half : (w - 1) / 2 ≡ w / 2 - 1 = omega (arith, bit_at_lowest w, none 0 (omega arith)) in
    let lower = less t (w / 2) (sym (bit_at-suc w t) ∙ one) (λ i l. sym (bit_at-suc w i) ∙ none (suc i) (omega arith)) in
    let bit : (i : ℕ) → bit_at (w - 1) (suc i) ≡ bit_at (w / 2 - 1) i = λ i. bit_at-suc (w - 1) i ∙ ap (λ x. bit_at x i) half in
    (bit t ∙ lower.0, above bit lower.1)
  where
    above : ((i : ℕ) → bit_at (w - 1) (suc i) ≡ bit_at (w / 2 - 1) i) → ((i : ℕ) → t < i → bit_at (w / 2 - 1) i ≡ bit_at (w / 2) i) → (i : ℕ) → suc t < i → bit_at (w - 1) i ≡ bit_at w i
    above bit same zero l = absurd (omega arith)
    above bit same (suc i) l = bit i ∙ same i (omega arith) ∙ sym (bit_at-suc w i)

pub none_left : (n : ℕ) → those_below n (member 0) ≡ []
none_left n = those_none n (member 0) (λ i l. no_member 0 i (bit_at-zero i))

-- the lowest place of a set that has one, and the others
pub lowest_left : (w : ℕ) → w < 2 ^ 64 → 0 < w → those_below 64 (member w) ≡ trailing_zeros w64 w ∷ those_below 64 (member (bit_and w (w - 1)))
lowest_left w l some =
    let t = trailing_zeros w64 w in
    let low = bit_at-trailing_zeros w64 w some l in
    let after = less t w low.1 low.2 in
    let both : (i : ℕ) → bit_at (bit_and w (w - 1)) i ≡ min (bit_at w i) (bit_at (w - 1) i) = bit_at_and w (w - 1) in
    those_first 64 t (member w) (member (bit_and w (w - 1))) low.0 (λ i b. no_member w i (low.2 i b)) (is_member w t low.0 low.1)
    (λ i b. no_member _ i (elim (cases_lt i t) [
      | inl below ↦ omega (arith, both i, low.2 i below)
      | inr from ↦ (let here : i ≡ t = omega arith in both i ∙ ap (λ j. min (bit_at w j) (bit_at (w - 1) j)) here ∙ omega (arith, after.0))
    ]))
    (λ i b. ap (λ x. nat_lt i 64 && x == 1) (omega (arith, both i, after.1 i b)))
