use Rattle.std.proofs.Math.Logic.{∥∥₁_map}
use Rattle.slots.specs.HoldersLeft.{holders_left}
use Rattle.slots.proofs.Calls.{all_made}
use Rattle.slots.proofs.table.Slots.work.Goals as goal

pub returns-clause-keeper : goal.returns-clause-keeper
returns-clause-keeper g c live =
    let first = c.pass_in.ensures live in
    let second = c.access.ensures.keeper first.0 in
    let third = c.pass_out.ensures second.0 in
    (third.0, all_made c.args.event (holders_left c.takes_from.result) (holders_left c.gives_to.result) (g.K.Keeper.meaning c.args.self.now.keeper) _ _ _ c.takes_from.ensures c.gives_to.ensures first.1 second.1 third.1)

pub invariant_of-self : goal.invariant_of-self
invariant_of-self g c = record { lives = ∥∥₁_map c.args.self.now.lives (λ live. (c.pass_in.ensures live).0) }

pub invariant_of-self-2 : goal.invariant_of-self-2
invariant_of-self-2 g c = record { lives = ∥∥₁_map c.access.new.self.lives (λ live. (c.pass_out.ensures live).0) }
