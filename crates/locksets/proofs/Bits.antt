-- Reading and writing one bit of a word, and one holder of a set. Assumes nothing.
use Rattle.std.proofs.Common.{◌≡◌, ℕ, zero, suc, ◌+◌, ◌-◌, ◌*◌, ◌/◌, ◌%◌, ◌^◌, ◌<◌, Bool, true, false, ◌&&◌, ◌||◌, eqb, List, [], ◌∷◌, length, get_or, set, sym, refl, ap, ◌∙◌, ap₂, inl, inr, arith}
use mathlib.Core.Bool.{and-true, and-false, or-false}
use native.Mathlib.Nat.{zero-div, div_self, div-eq_of_lt, mul-mod_right}
use lib.Bits.{bit_and, bit_or}
use Rattle.std.proofs.lemmas.Nat.{pow_pos, pow-add, pow_below, shl-shr, shl_whole, and_mask, or_shr, or_mod}
use Rattle.std.proofs.lemmas.List.{get_or-set_same, get_or-set_other}
use Rattle.std.proofs.lemmas.Bool.{cases_eq, cases_order, eq-eqb, ne_eqb}
use Rattle.locksets.specs.Sets.{bit_of, or_bit, member, no_holder, with_holder, carried, Wide}
use Rattle.locksets.specs.declared.set.LockSet.{LockSet}

-- the bit of weight 2 ^ k of the word w
abbrev bit : ℕ → ℕ → Bool
bit w k = eqb (w / 2 ^ k % 2) 1

bit_zero : (k : ℕ) → bit 0 k ≡ false
bit_zero k = ap (λ n. eqb (n % 2) 1) (zero-div (2 ^ k))

-- what a shift and a mask read
bit_read : (w k : ℕ) → eqb (bit_and (w / 2 ^ k) 1) 1 ≡ bit w k
bit_read w k = ap (λ n. eqb n 1) (and_mask (w / 2 ^ k) 1)

-- the bits of 2 ^ k

pow_low : (k j : ℕ) → j < k → 2 ^ k / 2 ^ j % 2 ≡ 0
pow_low k j h =
    let d : ℕ = k - j - 1 in
    let e : k ≡ (1 + d) + j = omega arith in
    let p : 2 ^ k ≡ 2 ^ (1 + d) * 2 ^ j = ap (λ n. 2 ^ n) e ∙ pow-add 2 (1 + d) j in
    let q : 2 ^ k / 2 ^ j ≡ 2 * 2 ^ d = ap (λ n. n / 2 ^ j) p ∙ shl-shr (2 ^ (1 + d)) j ∙ pow-add 2 1 d in
    ap (λ n. n % 2) q ∙ mul-mod_right 2 (2 ^ d)

pow_same : (k : ℕ) → 2 ^ k / 2 ^ k % 2 ≡ 1
pow_same k = ap (λ n. n % 2) (div_self (pow_pos k))

pow_high : (k j : ℕ) → k < j → 2 ^ k / 2 ^ j % 2 ≡ 0
pow_high k j h = ap (λ n. n % 2) (div-eq_of_lt (pow_below k j h))

pow_bit : (k j : ℕ) → eqb (2 ^ k / 2 ^ j % 2) 1 ≡ eqb j k
pow_bit k j = elim (cases_order j k) [
  | inl e ↦ let same : 2 ^ k / 2 ^ j % 2 ≡ 1 = ap (λ n. 2 ^ k / 2 ^ n % 2) e ∙ pow_same k in ap (λ n. eqb n 1) same ∙ sym (eq-eqb j k e)
  | inr (inl l) ↦ ap (λ n. eqb n 1) (pow_low k j l) ∙ sym (ne_eqb j k (λ e. omega arith))
  | inr (inr l) ↦ ap (λ n. eqb n 1) (pow_high k j l) ∙ sym (ne_eqb j k (λ e. omega arith))
]

-- two bits joined

or_digits : (a b : ℕ) → a < 2 → b < 2 → eqb (bit_or a b) 1 ≡ (eqb a 1 || eqb b 1)
or_digits zero zero p q = refl
or_digits zero (suc zero) p q = refl
or_digits (suc zero) zero p q = refl
or_digits (suc zero) (suc zero) p q = refl
or_digits zero (suc (suc b)) p q = absurd (omega arith)
or_digits (suc zero) (suc (suc b)) p q = absurd (omega arith)
or_digits (suc (suc a)) b p q = absurd (omega arith)

bit_joined : (w v j : ℕ) → bit (bit_or w v) j ≡ (bit w j || bit v j)
bit_joined w v j =
    let e : bit_or w v / 2 ^ j % 2 ≡ bit_or (w / 2 ^ j % 2) (v / 2 ^ j % 2) = ap (λ n. n % 2) (or_shr w v j) ∙ or_mod (w / 2 ^ j) (v / 2 ^ j) 1 in
    ap (λ n. eqb n 1) e ∙ or_digits (w / 2 ^ j % 2) (v / 2 ^ j % 2) (omega arith) (omega arith)

-- the digit v, 0 or 1, put at bit k
placed_bit : (v k j : ℕ) → v < 2 → bit (v * 2 ^ k) j ≡ (eqb j k && eqb v 1)
placed_bit zero k j p = ap (λ n. eqb (n / 2 ^ j % 2) 1) (let e : 0 * 2 ^ k ≡ 0 = omega arith in e) ∙ bit_zero j ∙ sym (and-false (eqb j k))
placed_bit (suc zero) k j p = ap (λ n. eqb (n / 2 ^ j % 2) 1) (let e : 1 * 2 ^ k ≡ 2 ^ k = omega arith in e) ∙ pow_bit k j ∙ sym (and-true (eqb j k))
placed_bit (suc (suc v)) k j p = absurd (omega arith)

-- a row of words, of 64 holders each

same_place : (h t : ℕ) → h / 64 ≡ t / 64 → eqb (h % 64) (t % 64) ≡ eqb h t
same_place h t e = elim (cases_eq h t) [
  | inl p ↦ eq-eqb (h % 64) (t % 64) (ap (λ n. n % 64) p) ∙ sym (eq-eqb h t p)
  | inr n ↦ ne_eqb (h % 64) (t % 64) (λ q. n (omega arith)) ∙ sym (ne_eqb h t n)
]

-- the row after the digit v is put at holder t
row_placed : (ws : List ℕ) (v t h : ℕ) → v < 2 → t / 64 < length ws
    → bit (get_or (set ws (t / 64) (bit_or (get_or ws (t / 64) 0) ((v * 2 ^ (t % 64)) % 2 ^ 64))) (h / 64) 0) (h % 64) ≡ (bit (get_or ws (h / 64) 0) (h % 64) || (eqb h t && eqb v 1))
row_placed ws v t h small within =
    let old : ℕ = get_or ws (t / 64) 0 in
    let digit : ℕ = (v * 2 ^ (t % 64)) % 2 ^ 64 in
    let whole : digit ≡ v * 2 ^ (t % 64) = shl_whole v 1 (t % 64) 64 small (omega arith) in
    elim (cases_eq (h / 64) (t / 64)) [
      | inl e ↦
          ap (λ n. bit (get_or (set ws (t / 64) (bit_or old digit)) n 0) (h % 64)) e
          ∙ ap (λ w. bit w (h % 64)) (get_or-set_same ws (t / 64) (bit_or old digit) 0 within)
          ∙ bit_joined old digit (h % 64)
          ∙ ap₂ (λ x y. x || y)
          (ap (λ n. bit (get_or ws n 0) (h % 64)) (sym e))
          (ap (λ n. bit n (h % 64)) whole ∙ placed_bit v (t % 64) (h % 64) small ∙ ap (λ b. b && eqb v 1) (same_place h t e))
      | inr n ↦
          ap (λ w. bit w (h % 64)) (get_or-set_other ws (t / 64) (h / 64) (bit_or old digit) 0 n)
          ∙ sym (or-false (bit (get_or ws (h / 64) 0) (h % 64)))
          ∙ ap (λ b. bit (get_or ws (h / 64) 0) (h % 64) || (b && eqb v 1)) (sym (ne_eqb h t (λ p. n (ap (λ m. m / 64) p))))
    ]

-- the same, as membership
member_placed : (s : LockSet) (v t h : ℕ) → v < 2 → Wide s t → eqb (bit_of (or_bit s.words t v) h) 1 ≡ (member s h || (eqb h t && eqb v 1))
member_placed s v t h small wide =
    bit_read (get_or (or_bit s.words t v) (h / 64) 0) (h % 64)
    ∙ row_placed s.words v t h small wide
    ∙ ap (λ b. b || (eqb h t && eqb v 1)) (sym (bit_read (get_or s.words (h / 64) 0) (h % 64)))

-- what the sets have

pub member_none : (h : ℕ) → member no_holder h ≡ false
member_none h = bit_read (get_or no_holder.words (h / 64) 0) (h % 64) ∙ ap (λ w. bit w (h % 64)) (zeros (h / 64)) ∙ bit_zero (h % 64)
  where
    zeros : (i : ℕ) → ◌≡◌ {A = ℕ} (get_or (0 ∷ 0 ∷ 0 ∷ 0 ∷ []) i 0) 0
    zeros zero = refl
    zeros (suc zero) = refl
    zeros (suc (suc zero)) = refl
    zeros (suc (suc (suc zero))) = refl
    zeros (suc (suc (suc (suc i)))) = refl

pub member_only : (t h : ℕ) → t < 8 → member (with_holder no_holder t) h ≡ eqb h t
member_only t h small =
    member_placed no_holder 1 t h (omega arith) (omega arith)
    ∙ ap (λ b. b || (eqb h t && true)) (member_none h)
    ∙ and-true (eqb h t)

pub member_carried : (s : LockSet) (a b h : ℕ) → Wide s b → member (carried s a b) h ≡ (member s h || (eqb h b && member s a))
member_carried s a b h wide = member_placed s (bit_of s.words a) b h (omega (arith, and_mask (get_or s.words (a / 64) 0 / 2 ^ (a % 64)) 1)) wide
