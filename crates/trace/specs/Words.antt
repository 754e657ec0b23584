-- Numbers as bytes, lowest byte first. Assumes nothing.
--   value_of bs      the number that the bytes bs stand for
--   bytes_of k n     the k lowest bytes of n
--   word k bytes i   the number in the k bytes from i on
--   Bytes bs         each element of bs is a byte
use Rattle.std.specs.Prelude.{ℕ, zero, suc, ◌+◌, ◌*◌, ◌/◌, ◌%◌, ◌<◌, List, [], ◌∷◌, take, drop}
use Rattle.std.specs.List.{AllByRecursion}

unfoldable pub value_of : List ℕ → ℕ
value_of [] = 0
value_of (b ∷ bs) = b + 256 * value_of bs

unfoldable pub bytes_of : ℕ → ℕ → List ℕ
bytes_of zero n = []
bytes_of (suc k) n = n % 256 ∷ bytes_of k (n / 256)

abbrev pub word : ℕ → List ℕ → ℕ → ℕ
word k bytes i = value_of (take k (drop i bytes))

abbrev pub Bytes : List ℕ → Type 0
Bytes bs = AllByRecursion (λ b. b < 256) bs
