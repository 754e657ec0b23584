use Rattle.std.proofs.Common.{◌≡◌, ◌+◌, ◌<◌, ◌≤◌, vec_items}
use Rattle.trace.proofs.Sections.{Through}
use Rattle.trace.proofs.whole.read_front.Given as goal

-- the sections before this one are read
abbrev pub invariant-loop-section : goal.invariant-loop-section
invariant-loop-section l =
    (l.reader.bytes.now ≡ l.bytes) × (0 < l.reader.at.byte) × Through l.bytes l.section l.reader.at (vec_items l.trace.counts) (vec_items l.trace.events)
    × (l.section ≤ l.sections + 1)
