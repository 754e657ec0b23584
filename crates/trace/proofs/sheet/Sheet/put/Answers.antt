use Rattle.std.proofs.Common.{refl, arith}
use Rattle.trace.proofs.Buffers.{laid_put}
use Rattle.trace.proofs.sheet.Sheet.put.Goals as goal

pub returns : goal.returns
returns c = record {
  same_buffer = refl;
  at = refl;
  out = laid_put c.args.self.now.out.now c.args.self.now.at _ c.args.bytes.now _ c.copy_from_slice.ensures.after (omega arith);
}
