use Rattle.std.proofs.Common.{sym, ◌∙◌}
use Rattle.trace.proofs.Numbers.{bytes_2, bytes_4}
use Rattle.handmade.proofs.Entries.{entries_none, entries_more, told_all}
use Rattle.handmade.proofs.told.Goals as goal

pub loop-offset-init : goal.loop-offset-init
loop-offset-init c = entries_none _

pub loop-offset-preserved : goal.loop-offset-preserved
loop-offset-preserved c =
    entries_more c.args.entries.now c.loop-offset.offset-index _ _ _ _ _ _ c.loop-offset-test.true c.loop-offset.invariant c.in_ok-extend_from_slice-3.ensures.items c.in_ok-extend_from_slice-4.ensures.items
    (c.to_le_bytes-in-loop-offset.ensures ∙ sym (bytes_4 _))
    (c.to_le_bytes-in-loop-offset-2.ensures ∙ sym (bytes_4 _))

pub returns : goal.returns
returns c =
    told_all c.args.sections c.loop-offset.offset-index c.args.entries.now c.args.rest.now _ _ _ _ _ _ _ c.new-out.ensures.items c.in_ok-extend_from_slice.ensures.items c.in_ok-extend_from_slice-2.ensures.items
    (c.to_le_bytes.ensures ∙ sym (bytes_2 1))
    (c.to_le_bytes-2.ensures ∙ sym (bytes_2 c.args.sections))
    c.loop-offset.invariant c.loop-offset-test.false c.in_ok-extend_from_slice-5.ensures.items
