-- Sets of places as 64-bit words: bit p stands for place p. Assumes nothing.
--   member w p          place p is in the set that the word w stands for
--   NextPlace w n r     r is the lowest place of the set from n on, if there is one
--   with_place s p      the set s with place p in it
--   those_below n f     the numbers below n that pass the test f, lowest first
--   places_of s         the places of the set s, lowest first
--   places_left i       the places that an iterator over a set has still to give
use Rattle.std.specs.Prelude.{◌≡◌, ℕ, zero, suc, ◌/◌, ◌%◌, ◌^◌, ◌<◌, ◌≤◌, Bool, true, false, cond, ◌&&◌, List, [], ◌∷◌, ◌++◌, Some, None, Option, ◌==◌, nat_lt, bit_or}
use Rattle.events.specs.declared.places.PlaceSet.{PlaceSet}
use Rattle.events.specs.declared.places.Places.{Places}

abbrev pub member : ℕ → ℕ → Bool
member w p = nat_lt p 64 && w / 2 ^ p % 2 == 1

-- none of the places from n on and below m is in the set
abbrev pub NoneBetween : ℕ → ℕ → ℕ → Type 0
NoneBetween w n m = (p : ℕ) → n ≤ p → p < m → member w p ≡ false

abbrev pub NextPlace : ℕ → ℕ → Option ℕ → Type 0
NextPlace w n None = NoneBetween w n 64
NextPlace w n (Some p) = (n ≤ p) × (p < 64) × (member w p ≡ true) × NoneBetween w n p

-- there is no place of 64 or more
abbrev pub with_place : PlaceSet → ℕ → PlaceSet
with_place s p = cond (nat_lt p 64) (record { word = bit_or s.word (2 ^ p) }) s

-- the numbers below n that pass the test, ascending
unfoldable pub those_below : ℕ → (ℕ → Bool) → List ℕ
those_below zero f = []
those_below (suc n) f = those_below n f ++ cond (f n) (n ∷ []) []

abbrev pub places_of : PlaceSet → List ℕ
places_of s = those_below 64 (member s.word)

abbrev pub places_left : Places → List ℕ
places_left i = places_of i.set
