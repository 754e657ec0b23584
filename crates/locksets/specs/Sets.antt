-- Which holders a lockset has, and the sets that its functions make. Assumes nothing.
--
-- bit_of ws h         the bit of holder h, 0 or 1: bit h % 64 of word h / 64
-- or_bit ws h v       the words with the bit v joined to that of holder h
-- member s h          holder h is in the set s
-- no_holder           the empty set
-- with_holder s h     s and holder h
-- carried s a b       s, and holder b if holder a is in s
-- Wide s h            s has a word for holder h, as every set has
use Rattle.std.specs.Prelude.{ℕ, ◌*◌, ◌/◌, ◌%◌, ◌^◌, ◌<◌, Bool, List, [], ◌∷◌, length, ◌==◌, bit_and, bit_or, slice_index, slice_set}
use Rattle.locksets.specs.declared.set.LockSet.{LockSet}

abbrev pub bit_of : List ℕ → ℕ → ℕ
bit_of ws h = bit_and (slice_index ws (h / 64) / 2 ^ (h % 64)) 1

abbrev pub or_bit : List ℕ → ℕ → ℕ → List ℕ
or_bit ws h v = slice_set ws (h / 64) (bit_or (slice_index ws (h / 64)) ((v * 2 ^ (h % 64)) % 2 ^ 64))

abbrev pub member : LockSet → ℕ → Bool
member s h = bit_of s.words h == 1

abbrev pub no_holder : LockSet
no_holder = record { words = 0 ∷ 0 ∷ 0 ∷ 0 ∷ [] }

abbrev pub with_holder : LockSet → ℕ → LockSet
with_holder s h = record { words = or_bit s.words h 1 }

abbrev pub carried : LockSet → ℕ → ℕ → LockSet
carried s a b = record { words = or_bit s.words b (bit_of s.words a) }

abbrev pub Wide : LockSet → ℕ → Type 0
Wide s h = h / 64 < length s.words
