use Rattle.std.proofs.Common.{length, ap, ◌∙◌, arith, rules}
use Rattle.trace.specs.File.{body}
use Rattle.trace.proofs.Sheets.{room_left}
use Rattle.trace.proofs.Writing.{entries_none, entries_more, entries_all, offset_within}
use Rattle.trace.proofs.sheet.Sheet.put_contents.Goals as goal

pub loop-count-init : goal.loop-count-init
loop-count-init c = entries_none c.args.self.now c.args.counts.now c.args.events.now c.requires.counts_in_bounds.0

pub overflow_cast-size : goal.overflow_cast-size
overflow_cast-size c =
    let within = offset_within c.loop-count.invariant c.loop-count-test.true in
    let size = c.body_size-size.ensures ∙ ap (λ l. length (body l)) c.split_at.ensures.front in
    search rules

pub put_entry-requires : goal.put_entry-requires
put_entry-requires c =
    let inv = c.loop-count.invariant in
    room_left 8 inv.put (omega (arith, inv.long))

pub overflow_add-offset-in-loop-count : goal.overflow_add-offset-in-loop-count
overflow_add-offset-in-loop-count c =
    let within = offset_within c.loop-count.invariant c.loop-count-test.true in
    let size = c.body_size-size.ensures ∙ ap (λ l. length (body l)) c.split_at.ensures.front in
    search rules

pub loop-count-preserved : goal.loop-count-preserved
loop-count-preserved c =
    let size = c.body_size-size.ensures ∙ ap (λ l. length (body l)) c.split_at.ensures.front in
    entries_more c.loop-count.invariant c.loop-count-test.true c.body_size-size.result c.put_entry.new.self _ size c.split_at.ensures.back c.put_entry.ensures (omega arith)

pub returns : goal.returns
returns c = entries_all c.loop-count.invariant c.loop-count-test.false
