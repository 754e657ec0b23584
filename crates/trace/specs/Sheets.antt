-- A buffer that is filled from its front. Assumes nothing.
--   Room s n       n bytes more fit in the buffer
--   Adds s bs t    t is the same buffer, with the bytes bs behind what was in s
use Rattle.std.specs.Prelude.{◌≡◌, ℕ, ◌+◌, ◌≤◌, List, length}
use Rattle.trace.specs.declared.sheet.Sheet.{Sheet}
use Rattle.trace.specs.File.{laid}

abbrev pub Room : Sheet → ℕ → Type 0
Room s n = s.at + n ≤ length s.out.now

pub record Adds (s : Sheet) (bs : List ℕ) (t : Sheet) : Type 0 where
  pub same_buffer : t.out.ghost_name ≡ s.out.ghost_name
  pub at : t.at ≡ s.at + length bs
  pub out : t.out.now ≡ laid s.out.now s.at bs
