use Rattle.std.proofs.Common.{◌+◌, ◌*◌, ap, ◌∙◌, arith}
use Rattle.std.specs.Int.{from_le_bytes, w32}
use Rattle.trace.proofs.Numbers.{word_4}
use Rattle.trace.proofs.layout.Entry.read.Goals as goal

pub returns : goal.returns
returns c = (
  c.from_le_bytes.ensures ∙ ap (from_le_bytes w32) c.chunk.ensures ∙ word_4 c.args.bytes.now (4 + 8 * c.args.i) (omega arith),
  c.from_le_bytes-2.ensures ∙ ap (from_le_bytes w32) c.chunk-2.ensures ∙ word_4 c.args.bytes.now (8 + 8 * c.args.i) (omega arith),
)
