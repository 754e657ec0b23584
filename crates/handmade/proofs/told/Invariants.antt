use Rattle.std.proofs.Common.{◌≡◌, ◌++◌, take, vec_items}
use Rattle.handmade.specs.Told.{entries_bytes}
use Rattle.handmade.proofs.told.Given as goal

-- the entries so far are behind the header
abbrev pub invariant-loop-offset : goal.invariant-loop-offset
invariant-loop-offset l = vec_items l.out ≡ vec_items l.initial.out ++ entries_bytes (take l.offset-index l.entries)
