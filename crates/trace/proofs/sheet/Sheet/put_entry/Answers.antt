use Rattle.std.proofs.Common.{length, sym, ap, ◌∙◌, arith}
use Rattle.trace.proofs.Numbers.{bytes_4, length_bytes_of}
use Rattle.trace.proofs.Sheets.{adds_more, adds_known, room_left}
use Rattle.trace.proofs.sheet.Sheet.put_entry.Goals as goal

pub put-requires-2 : goal.put-requires-2
put-requires-2 c =
    let first = adds_known c.put.ensures (c.to_le_bytes.ensures ∙ sym (bytes_4 c.args.offset)) in
    let long = length_bytes_of 4 c.args.offset in
    room_left _ first (omega (arith, ap length c.to_le_bytes-2.ensures))

pub returns : goal.returns
returns c =
    let first = adds_known c.put.ensures (c.to_le_bytes.ensures ∙ sym (bytes_4 c.args.offset)) in
    let second = adds_known c.put-2.ensures (c.to_le_bytes-2.ensures ∙ sym (bytes_4 c.args.size)) in
    adds_more first second (omega arith)
