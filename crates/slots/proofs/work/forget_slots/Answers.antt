use Rattle.std.proofs.Common.{◌+◌, ◌-◌, sym, ap, ◌∙◌}
use Rattle.order.specs.Work.{forget_from}
use Rattle.slots.specs.Made.{made}
use Rattle.slots.proofs.Calls.{forget_more, forget_ends}
use Rattle.slots.proofs.work.forget_slots.Goals as goal

pub loop-slot-preserved : goal.loop-slot-preserved
loop-slot-preserved g c live =
    let end = c.args.first + c.args.count in
    let i = c.loop-slot.slot in
    let inv = c.loop-slot.invariant live in (
      c.forget.ensures.lives inv.0,
      ap (made (forget_from (end - (i + 1)) (i + 1))) (c.forget.ensures.effect inv.0) ∙ sym (forget_more end i (g.K.Keeper.meaning c.loop-slot.keeper) c.loop-slot-test.true) ∙ inv.1,
    )

pub returns : goal.returns
returns g c live =
    let inv = c.loop-slot.invariant live in
    (inv.0, sym (forget_ends (c.args.first + c.args.count) c.loop-slot.slot (g.K.Keeper.meaning c.loop-slot.keeper) c.loop-slot-test.false) ∙ inv.1)
