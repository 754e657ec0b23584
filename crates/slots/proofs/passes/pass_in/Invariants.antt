use Rattle.std.proofs.Common.{◌≡◌}
use Rattle.slots.specs.Made.{made, passes_in}
use Rattle.slots.specs.HoldersLeft.{holders_left}
use Rattle.slots.proofs.passes.pass_in.Given as goal

-- what is left to pass gives the whole effect
abbrev pub invariant-loop-holder : goal.invariant-loop-holder
invariant-loop-holder g l =
    let m = g.K.Keeper.meaning in
    g.K.Keeper.live l.initial.keeper → g.K.Keeper.live l.keeper × (made (passes_in l.thread (holders_left l.holder-iterator)) (m l.keeper) ≡ made (passes_in l.thread (holders_left l.fn.holders)) (m l.initial.keeper))
