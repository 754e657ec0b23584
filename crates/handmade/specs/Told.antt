-- Files made by hand: what is told of them need not fit. Assumes nothing.
--   entries_bytes entries       the entries of the contents, each an offset and a length
--   told_bytes n entries rest   a file of edition 1 that tells n sections, with these entries, and then the bytes `rest`
use Rattle.std.specs.Prelude.{ℕ, List, ◌++◌}
use Rattle.std.specs.List.{flat_map}
use Rattle.trace.specs.Words.{bytes_of}

unfoldable pub entries_bytes : List (ℕ × ℕ) → List ℕ
entries_bytes entries = flat_map (λ e. bytes_of 4 e.0 ++ bytes_of 4 e.1) entries

unfoldable pub told_bytes : ℕ → List (ℕ × ℕ) → List ℕ → List ℕ
told_bytes n entries rest = bytes_of 2 1 ++ (bytes_of 2 n ++ (entries_bytes entries ++ rest))
