-- A write appends the bytes behind those that were written before.
use Rattle.streams.proofs.Fronts.{writes_on, writes_within}
use Rattle.streams.proofs.writing.write_out.Goals as goal

pub loop-written-preserved-in-Ok : goal.loop-written-preserved-in-Ok
loop-written-preserved-in-Ok g c = record {
  within = writes_within c.args.bytes.now c.loop-written.written c.in-Ok.n c.loop-written-test.true c.in-Ok.ensures.bound;
  wrote = writes_on _ _ _ c.args.bytes.now c.loop-written.written c.in-Ok.n c.loop-written.invariant.wrote c.in-Ok.ensures.bytes;
  goes_on = λ s. (c.in-Ok.ensures.steady (c.loop-written.invariant.goes_on s)).1;
}
