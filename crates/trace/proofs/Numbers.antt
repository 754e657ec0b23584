-- Numbers and their bytes: one byte more, and there and back. Assumes nothing.
use Rattle.std.proofs.Common.{◌≡◌, ℕ, zero, suc, ◌+◌, ◌*◌, ◌/◌, ◌%◌, ◌^◌, ◌<◌, ◌≤◌, List, [], ◌∷◌, length, get_or, take, drop, sym, refl, ap, ◌∙◌, pow-suc, arith}
use native.Mathlib.Nat.{div-div-eq-div-mul}
use Rattle.std.proofs.lemmas.Nat.{div_below}
use Rattle.std.proofs.ByRecursion.{All-take, All-drop}
use Rattle.std.proofs.lemmas.List.{length-drop, length-take-le, drop_more, get_or-take, get_or-drop}
use Rattle.std.specs.Int.{from_le_bytes, w16, w32, w64}
use Rattle.trace.specs.Words.{value_of, bytes_of, word, Bytes}

pub word_none : (bytes : List ℕ) (i : ℕ) → word 0 bytes i ≡ 0
unfolding value_of
word_none bytes i = refl

-- the lowest byte, and the rest from j = i + 1 on
pub word_more : (k : ℕ) (bytes : List ℕ) (i j : ℕ) → i < length bytes → j ≡ i + 1 → word (suc k) bytes i ≡ get_or bytes i 0 + 256 * word k bytes j
unfolding value_of
word_more k bytes i j h e =
    ap (λ l. value_of (take (suc k) l)) (drop_more bytes i 0 h) ∙ ap (λ m. get_or bytes i 0 + 256 * value_of (take k (drop m bytes))) (sym e)

-- the bytes at i and j = i + 1, and the rest from n = i + 2 on
pub word_pair : (k : ℕ) (bytes : List ℕ) (i j n : ℕ) → i + 2 ≤ length bytes → j ≡ i + 1 → n ≡ i + 2 → word (suc (suc k)) bytes i ≡ get_or bytes i 0 + 256 * get_or bytes j 0 + 65536 * word k bytes n
word_pair k bytes i j n h e f =
    let low = word_more (suc k) bytes i j (omega arith) e in
    let high = word_more k bytes j n (omega arith) (omega arith) in
    omega arith

-- the bytes of a number as they stand in a list
chunk_at : (bytes : List ℕ) (n i k j : ℕ) → k < n → j ≡ i + k → get_or (take n (drop i bytes)) k 0 ≡ get_or bytes j 0
chunk_at bytes n i k j h e = get_or-take n (drop i bytes) k 0 h ∙ get_or-drop i bytes k 0 ∙ ap (λ m. get_or bytes m 0) (sym e)

-- the numbers that `from_le_bytes` makes of them
pub word_2 : (bytes : List ℕ) (i : ℕ) → i + 2 ≤ length bytes → from_le_bytes w16 (take 2 (drop i bytes)) ≡ word 2 bytes i
word_2 bytes i h =
    let a = chunk_at bytes 2 i 0 i (omega arith) (omega arith) in
    let b = chunk_at bytes 2 i 1 (i + 1) (omega arith) refl in
    let pair = word_pair 0 bytes i (i + 1) (i + 2) h refl refl in
    let none = word_none bytes (i + 2) in
    omega arith

pub word_4 : (bytes : List ℕ) (i : ℕ) → i + 4 ≤ length bytes → from_le_bytes w32 (take 4 (drop i bytes)) ≡ word 4 bytes i
word_4 bytes i h =
    let a = chunk_at bytes 4 i 0 i (omega arith) (omega arith) in
    let b = chunk_at bytes 4 i 1 (i + 1) (omega arith) refl in
    let c = chunk_at bytes 4 i 2 (i + 2) (omega arith) refl in
    let d = chunk_at bytes 4 i 3 (i + 3) (omega arith) refl in
    let low = word_pair 2 bytes i (i + 1) (i + 2) (omega arith) refl refl in
    let high = word_pair 0 bytes (i + 2) (i + 3) (i + 4) (omega arith) (omega arith) (omega arith) in
    let none = word_none bytes (i + 4) in
    omega arith

pub word_8 : (bytes : List ℕ) (i : ℕ) → i + 8 ≤ length bytes → from_le_bytes w64 (take 8 (drop i bytes)) ≡ word 8 bytes i
word_8 bytes i h =
    let a = chunk_at bytes 8 i 0 i (omega arith) (omega arith) in
    let b = chunk_at bytes 8 i 1 (i + 1) (omega arith) refl in
    let c = chunk_at bytes 8 i 2 (i + 2) (omega arith) refl in
    let d = chunk_at bytes 8 i 3 (i + 3) (omega arith) refl in
    let e = chunk_at bytes 8 i 4 (i + 4) (omega arith) refl in
    let f = chunk_at bytes 8 i 5 (i + 5) (omega arith) refl in
    let g = chunk_at bytes 8 i 6 (i + 6) (omega arith) refl in
    let k = chunk_at bytes 8 i 7 (i + 7) (omega arith) refl in
    let first = word_pair 6 bytes i (i + 1) (i + 2) (omega arith) refl refl in
    let second = word_pair 4 bytes (i + 2) (i + 3) (i + 4) (omega arith) (omega arith) (omega arith) in
    let third = word_pair 2 bytes (i + 4) (i + 5) (i + 6) (omega arith) (omega arith) (omega arith) in
    let fourth = word_pair 0 bytes (i + 6) (i + 7) (i + 8) (omega arith) (omega arith) (omega arith) in
    let none = word_none bytes (i + 8) in
    omega arith

pub length_bytes_of : (k n : ℕ) → length (bytes_of k n) ≡ k
unfolding bytes_of
length_bytes_of zero n = refl
length_bytes_of (suc k) n = ap suc (length_bytes_of k (n / 256))

bytes_from : (k n q : ℕ) → bytes_of (suc k) (n / q) ≡ n / q % 256 ∷ bytes_of k (n / (q * 256))
unfolding bytes_of
bytes_from k n q = ap (λ m. n / q % 256 ∷ bytes_of k m) (div-div-eq-div-mul n q 256)

bytes_none : (n : ℕ) → bytes_of 0 n ≡ []
unfolding bytes_of
bytes_none n = refl

bytes_first : (k n : ℕ) → bytes_of (suc k) n ≡ n % 256 ∷ bytes_of k (n / 256)
unfolding bytes_of
bytes_first k n = refl

-- the bytes as `to_le_bytes` tells them
pub bytes_2 : (n : ℕ) → bytes_of 2 n ≡ n % 256 ∷ (n / 256 % 256 ∷ [])
bytes_2 n =
    let a = bytes_first 1 n in
    let b = bytes_from 0 n 256 in
    let z = bytes_none (n / 65536) in
    cc

pub bytes_4 : (n : ℕ) → bytes_of 4 n ≡ n % 256 ∷ (n / 256 % 256 ∷ (n / 65536 % 256 ∷ (n / 16777216 % 256 ∷ [])))
bytes_4 n =
    let a = bytes_first 3 n in
    let b = bytes_from 2 n 256 in
    let c = bytes_from 1 n 65536 in
    let d = bytes_from 0 n 16777216 in
    let z = bytes_none (n / 4294967296) in
    cc

pub bytes_8 : (n : ℕ) → bytes_of 8 n ≡ n % 256 ∷ (n / 256 % 256 ∷ (n / 65536 % 256 ∷ (n / 16777216 % 256 ∷ (n / 4294967296 % 256 ∷ (n / 1099511627776 % 256 ∷ (n / 281474976710656 % 256 ∷ (n / 72057594037927936 % 256 ∷ [])))))))
bytes_8 n =
    let a = bytes_first 7 n in
    let b = bytes_from 6 n 256 in
    let c = bytes_from 5 n 65536 in
    let d = bytes_from 4 n 16777216 in
    let e = bytes_from 3 n 4294967296 in
    let f = bytes_from 2 n 1099511627776 in
    let g = bytes_from 1 n 281474976710656 in
    let h = bytes_from 0 n 72057594037927936 in
    let z = bytes_none (n / 18446744073709551616) in
    cc

-- the bytes of the number that bytes stand for are those bytes
pub bytes_of_number : (bs : List ℕ) → Bytes bs → bytes_of (length bs) (value_of bs) ≡ bs
unfolding value_of bytes_of
bytes_of_number [] all = refl
bytes_of_number (b ∷ bs) all =
    let low : (b + 256 * value_of bs) % 256 ≡ b = omega (arith, all.0) in
    let high : (b + 256 * value_of bs) / 256 ≡ value_of bs = omega (arith, all.0) in
    ap (λ x. x ∷ bytes_of (length bs) ((b + 256 * value_of bs) / 256)) low ∙ ap (λ m. b ∷ bytes_of (length bs) m) high ∙ ap (λ l. b ∷ l) (bytes_of_number bs all.1)

pub bytes_again : (bytes : List ℕ) (k i : ℕ) → Bytes bytes → i + k ≤ length bytes → bytes_of k (word k bytes i) ≡ take k (drop i bytes)
bytes_again bytes k i all h =
    let long = length-take-le k (drop i bytes) (simp length-drop (omega arith)) in
    ap (λ n. bytes_of n (word k bytes i)) (sym long) ∙ bytes_of_number (take k (drop i bytes)) (All-take (λ b. b < 256) k (drop i bytes) (All-drop (λ b. b < 256) i bytes all))

-- the number of a number's bytes is that number
pub number_bytes_of : (k n : ℕ) → n < 256 ^ k → value_of (bytes_of k n) ≡ n
unfolding value_of bytes_of
number_bytes_of zero n h = omega arith
number_bytes_of (suc k) n h =
    let e : 256 ^ suc k ≡ 256 ^ k * 256 = pow-suc 256 k in
    let high : n / 256 < 256 ^ k = div_below n 256 (256 ^ k) (omega arith) (omega arith) in
    let rest = number_bytes_of k (n / 256) high in
    omega arith
