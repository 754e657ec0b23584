-- How many places a set has, and which places two sets have together. Assumes nothing.
use Rattle.std.proofs.Common.{◌≡◌, ℕ, zero, suc, ◌+◌, ◌/◌, ◌%◌, ◌^◌, ◌<◌, ◌≤◌, max, Bool, true, false, cond, ◌&&◌, ◌||◌, eqb, ltb, [], ◌∷◌, length, sym, refl, ap, ◌∙◌, mod-lt, mod-eq_of_lt, one-add, arith, length-append, pow_pos}
use Rattle.std.proofs.lemmas.Bool.Decides.{nat_tests}
use lib.Bits.{bit_or, or_step, or_shr}
use lib.Count.{ones, ones_cat}
use lib.Pow.{mod-pow-add}
use Rattle.events.specs.Places.{member, those_below}

those_step : (n : ℕ) (f : ℕ → Bool) → length (those_below (suc n) f) ≡ length (those_below n f) + cond (f n) 1 0
unfolding those_below
those_step n f = length-append (those_below n f) _ ∙ ap (λ m. length (those_below n f) + m) (go (f n))
  where
    go : (b : Bool) → length {A = ℕ} (cond b (n ∷ []) []) ≡ cond b 1 0
    go true = refl
    go false = refl

pub those_few : (n : ℕ) (f : ℕ → Bool) → length (those_below n f) ≤ n
unfolding those_below
those_few zero f = omega arith
those_few (suc n) f = let few = those_few n f in rw (those_step n f) (at_most_one (f n) few)
  where
    at_most_one : (b : Bool) → length (those_below n f) ≤ n → length (those_below n f) + cond b 1 0 ≤ suc n
    at_most_one true few = omega arith
    at_most_one false few = omega arith

ones_bit : (b : ℕ) → b < 2 → ones b ≡ b
unfolding ones
ones_bit zero l = refl
ones_bit (suc zero) l = refl
ones_bit (suc (suc b)) l = absurd (omega arith)

-- the ones below a power of two, one more digit
ones_more : (x k : ℕ) → ones (x % 2 ^ (1 + k)) ≡ x / 2 ^ k % 2 + ones (x % 2 ^ k)
ones_more x k =
    ap ones (mod-pow-add x 1 k) ∙ ones_cat k (x / 2 ^ k % 2) (x % 2 ^ k) (mod-lt x (pow_pos k)) ∙ ap (λ m. m + ones (x % 2 ^ k)) (ones_bit (x / 2 ^ k % 2) (omega arith))

member_bit : (k a : ℕ) → k < 64 → a < 2 → cond (ltb k 64 && eqb a 1) 1 0 ≡ a
member_bit k a l m = grind (arith, nat_tests)

counted : (w n : ℕ) → n ≤ 64 → length (those_below n (member w)) ≡ ones (w % 2 ^ n)
unfolding those_below
counted w zero l = let none : w % 1 ≡ 0 = omega arith in sym (ap ones none ∙ ones_bit 0 (omega arith))
counted w (suc n) l =
    let ih = counted w n (omega arith) in
    let bit = member_bit n (w / 2 ^ n % 2) (omega arith) (omega arith) in
    those_step n (member w) ∙ (λ d. ih d + bit d) ∙ omega arith ∙ sym (ones_more w n) ∙ ap (λ m. ones (w % 2 ^ m)) (one-add n)

-- a word has as many ones as its set has places
pub places_ones : (w : ℕ) → w < 2 ^ 64 → length (those_below 64 (member w)) ≡ ones w
places_ones w l = counted w 64 (omega arith) ∙ ap ones (mod-eq_of_lt l)

or_bit : (a b : ℕ) → bit_or a b % 2 ≡ max (a % 2) (b % 2)
or_bit a b = omega (arith, or_step a b)

either_bit : (p a b : ℕ) → a < 2 → b < 2 → (ltb p 64 && eqb (max a b) 1) ≡ (ltb p 64 && eqb a 1 || ltb p 64 && eqb b 1)
either_bit p a b l m = grind (arith, nat_tests)

-- a place is in the union just if it is in either set
pub member_or : (r w p : ℕ) → member (bit_or r w) p ≡ (member r p || member w p)
member_or r w p =
    ap (λ n. ltb p 64 && eqb n 1) (ap (λ x. x % 2) (or_shr r w p) ∙ or_bit (r / 2 ^ p) (w / 2 ^ p)) ∙ either_bit p (r / 2 ^ p % 2) (w / 2 ^ p % 2) (omega arith) (omega arith)
