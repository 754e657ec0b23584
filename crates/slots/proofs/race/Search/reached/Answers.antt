use Rattle.std.proofs.Common.{sym, ◌∙◌}
use Rattle.slots.specs.Made.{held}
use Rattle.slots.proofs.Found.{arrived_own, arrived_else}
use Rattle.slots.proofs.race.Search.reached.Goals as goal

pub returns-then-holds : goal.returns-then-holds
returns-then-holds g c =
    let set = held (g.K.Keeper.meaning c.args.self.now.slots.now.keeper) c.args.slot in
    c.if-holds.true ∙ sym (arrived_own c.args.self.now.event set (sym c.holds.ensures ∙ c.if-holds.true))

pub returns-else-holds : goal.returns-else-holds
returns-else-holds g c =
    let set = held (g.K.Keeper.meaning c.args.self.now.slots.now.keeper) c.args.slot in
    c.brought.ensures ∙ sym (arrived_else c.args.self.now.event set (sym c.holds.ensures ∙ c.if-holds.false))
