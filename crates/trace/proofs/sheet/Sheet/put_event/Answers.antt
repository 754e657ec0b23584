use Rattle.std.proofs.Common.{◌∷◌, length, ap, ◌∙◌, arith}
use Rattle.trace.specs.Codec.{operands}
use Rattle.trace.proofs.Sheets.{adds_more, adds_known, room_left}
use Rattle.trace.proofs.sheet.Sheet.put_event.Goals as goal

pub put_operands-requires : goal.put_operands-requires
put_operands-requires c = room_left (length (operands c.args.event.action)) c.put.ensures (omega arith)

pub returns-clause-after : goal.returns-clause-after
returns-clause-after c =
    let e = c.args.event in
    adds_known (adds_more c.put.ensures c.put_operands.ensures.after (omega arith)) (ap (λ n. n ∷ (e.thread ∷ operands e.action)) (c.from.ensures ∙ c.from-kind.ensures))
