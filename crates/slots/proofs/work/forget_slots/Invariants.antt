use Rattle.std.proofs.Common.{◌≡◌, ◌+◌, ◌-◌}
use Rattle.order.specs.Work.{forget_from}
use Rattle.slots.specs.Made.{made}
use Rattle.slots.proofs.work.forget_slots.Given as goal

-- what is left to forget gives the whole effect
abbrev pub invariant-loop-slot : goal.invariant-loop-slot
invariant-loop-slot g l =
    let m = g.K.Keeper.meaning in
    g.K.Keeper.live l.initial.keeper → g.K.Keeper.live l.keeper × (made (forget_from (l.first + l.count - l.slot) l.slot) (m l.keeper) ≡ made (forget_from l.count l.first) (m l.initial.keeper))
