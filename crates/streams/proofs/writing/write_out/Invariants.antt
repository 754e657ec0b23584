-- What was written is a front of the bytes; each turn writes some or spends a try.
use Rattle.std.proofs.Common.{◌+◌, ◌-◌, ◌≤◌, length, take}
use Rattle.std.specs.Io.KnownBytes.{Appends}
use Rattle.streams.proofs.writing.write_out.Given as goal

abbrev pub invariant-loop-written : goal.invariant-loop-written
invariant-loop-written g l = record {
  within : l.written ≤ length l.bytes;
  wrote : Appends (g.W.Sink.contents l.initial.sink) (g.W.Sink.contents l.sink) (take l.written l.bytes);
  goes_on : g.W.Sink.steady l.initial.sink → g.W.Sink.steady l.sink;
}

abbrev pub decreases-loop-written : goal.decreases-loop-written
decreases-loop-written g l = (length l.bytes - l.written) + l.tries.left
