-- A set of places put together from the lowest place on. Assumes nothing.
use Rattle.std.proofs.Common.{◌≡◌, ℕ, ◌+◌, ◌*◌, ◌/◌, ◌%◌, ◌^◌, ◌<◌, true, false, ltb, bit_or, sym, ap, ◌∙◌, arith, mod-lt, pow_pos}
use Rattle.std.proofs.lemmas.Bool.{lt-ltb, cond-true}
use Rattle.std.proofs.lemmas.Bool.Decides.{nat_tests}
use Rattle.std.proofs.lemmas.Nat.{mod-pow-add}
use Rattle.std.specs.Int.Bits.{or_shifted_r}
use Rattle.events.specs.declared.places.PlaceSet.{PlaceSet}
use Rattle.events.specs.Places.{member, with_place}

-- the places of a set below p
abbrev pub below : PlaceSet → ℕ → PlaceSet
below s p = record { word = s.word % 2 ^ p }

bit : (w p b : ℕ) → w / 2 ^ p % 2 ≡ b → w % 2 ^ (1 + p) ≡ b * 2 ^ p + w % 2 ^ p
bit w p b is = mod-pow-add w 1 p ∙ ap (λ x. x * 2 ^ p + w % 2 ^ p) is

has_bit : (w p : ℕ) → member w p ≡ true → w / 2 ^ p % 2 ≡ 1
has_bit w p h = grind (arith, nat_tests)

no_bit : (w p : ℕ) → p < 64 → member w p ≡ false → w / 2 ^ p % 2 ≡ 0
no_bit w p l h = grind (arith, nat_tests)

-- one more place, if the set has it
pub place_more : (s : PlaceSet) (p : ℕ) → p < 64 → member s.word p ≡ true → with_place (below s p) p ≡ below s (p + 1)
place_more s p l h =
    let more : bit_or (s.word % 2 ^ p) (1 * 2 ^ p) ≡ s.word % 2 ^ (1 + p) =
    or_shifted_r 1 p (s.word % 2 ^ p) (mod-lt s.word (pow_pos p)) ∙ sym (bit s.word p 1 (has_bit s.word p h)) in
    cond-true (ltb p 64) _ _ (lt-ltb p 64 l) ∙ ap (λ w. record { word = w }) (ap (bit_or (s.word % 2 ^ p)) (omega arith) ∙ more ∙ ap (λ n. s.word % 2 ^ n) (omega arith))

pub place_missing : (s : PlaceSet) (p : ℕ) → p < 64 → member s.word p ≡ false → below s p ≡ below s (p + 1)
place_missing s p l h =
    ap (λ w. record { word = w }) (omega arith ∙ sym (bit s.word p 0 (no_bit s.word p l h)) ∙ ap (λ n. s.word % 2 ^ n) (omega arith))
