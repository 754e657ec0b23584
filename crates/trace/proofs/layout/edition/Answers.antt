use Rattle.std.proofs.Common.{ap, ◌∙◌, arith}
use Rattle.std.specs.Int.{from_le_bytes, w16}
use Rattle.trace.proofs.Numbers.{word_2}
use Rattle.trace.proofs.layout.edition.Goals as goal

pub returns : goal.returns
returns c = c.from_le_bytes.ensures ∙ ap (from_le_bytes w16) c.chunk.ensures ∙ word_2 c.args.bytes.now 0 (omega arith)
