-- A read puts its bytes behind those that were read before.
use Rattle.streams.proofs.Fronts.{reads_on}
use Rattle.streams.proofs.reading.read_up_to.Goals as goal

pub loop-filled-preserved-in-Ok : goal.loop-filled-preserved-in-Ok
loop-filled-preserved-in-Ok g c = record {
  within = c.in-Ok.ensures.fits;
  read = reads_on _ _ _ c.loop-filled.buf c.read_at.new.buf c.loop-filled.filled c.in-Ok.n c.in-Ok.ensures.front c.loop-filled.invariant.read c.in-Ok.ensures.ok;
  goes_on = λ s. (c.in-Ok.ensures.steady (c.loop-filled.invariant.goes_on s)).1;
}
