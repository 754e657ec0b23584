use Rattle.std.proofs.Common.{ap, ◌∙◌, arith}
use Rattle.std.specs.Int.{from_le_bytes, w64}
use Rattle.trace.proofs.Numbers.{word_8}
use Rattle.trace.proofs.codec.read_set.Goals as goal

pub returns : goal.returns
returns c = ap (λ n. record { word = n }) (c.from_le_bytes.ensures ∙ ap (from_le_bytes w64) c.chunk.ensures ∙ word_8 c.args.bytes.now c.args.at (omega arith))
