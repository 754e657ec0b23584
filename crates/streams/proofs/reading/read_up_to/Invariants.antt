-- What was read stands at the buffer's front; each turn fills some room or spends a try.
use Rattle.std.proofs.Common.{◌+◌, ◌-◌, ◌≤◌, length, take}
use Rattle.std.specs.Io.KnownBytes.{Consumes}
use Rattle.streams.proofs.reading.read_up_to.Given as goal

abbrev pub invariant-loop-filled : goal.invariant-loop-filled
invariant-loop-filled g l = record {
  within : l.filled ≤ length l.buf;
  read : Consumes (g.S.Source.remaining l.initial.source) (g.S.Source.remaining l.source) (take l.filled l.buf);
  goes_on : g.S.Source.steady l.initial.source → g.S.Source.steady l.source;
}

abbrev pub decreases-loop-filled : goal.decreases-loop-filled
decreases-loop-filled g l = (length l.buf - l.filled) + l.tries.left
