use Rattle.std.proofs.Common.{length, sym, ap, ◌∙◌, arith}
use Rattle.trace.specs.Words.{bytes_of}
use Rattle.trace.specs.Codec.{operands}
use Rattle.trace.proofs.Numbers.{bytes_8, length_bytes_of}
use Rattle.trace.proofs.Events.{length_sets}
use Rattle.trace.proofs.Sheets.{adds_more, adds_known, room_left}
use Rattle.trace.proofs.sheet.Sheet.put_operands.Goals as goal

pub put-requires : goal.put-requires
put-requires c =
    let long = ap (λ a. length (operands a)) c.in-Commit.is ∙ length_sets c.in-Commit.reads.word c.in-Commit.writes.word in
    omega arith

pub put-requires-in-Commit : goal.put-requires-in-Commit
put-requires-in-Commit c =
    let r = c.in-Commit.reads.word in
    let long = ap (λ a. length (operands a)) c.in-Commit.is ∙ length_sets r c.in-Commit.writes.word in
    let first = adds_known c.put.ensures (c.to_le_bytes.ensures ∙ sym (bytes_8 c.word.result) ∙ ap (bytes_of 8) c.word.ensures) in
    let eight = length_bytes_of 8 r in
    room_left _ first (omega (arith, ap length c.to_le_bytes-in-Commit.ensures))

pub returns-in-Commit-clause-after : goal.returns-in-Commit-clause-after
returns-in-Commit-clause-after c =
    let first = adds_known c.put.ensures (c.to_le_bytes.ensures ∙ sym (bytes_8 c.word.result) ∙ ap (bytes_of 8) c.word.ensures) in
    let second = adds_known c.put-in-Commit.ensures (c.to_le_bytes-in-Commit.ensures ∙ sym (bytes_8 c.word-in-Commit.result) ∙ ap (bytes_of 8) c.word-in-Commit.ensures) in
    adds_known (adds_more first second (omega arith)) (sym (ap operands c.in-Commit.is))
