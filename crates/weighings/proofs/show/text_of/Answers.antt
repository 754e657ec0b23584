use Rattle.std.proofs.Common.{string_bytes}
use Rattle.weighings.proofs.Replies.{tells_if}
use Rattle.weighings.proofs.show.text_of.Goals as goal

pub returns : goal.returns
returns c =
    tells_if c.args.parts.now c.in_ok-replies.replies.items string_bytes c.format.result c.in_ok-replies.ensures (rw c.as_slice.ensures.value at c.format.ensures.ok)
