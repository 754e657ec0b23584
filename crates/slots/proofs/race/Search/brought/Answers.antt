use Rattle.std.proofs.Common.{◌∙◌, rules}
use Rattle.std.proofs.lemmas.Iterator.Consumers.{YieldsList-from_first}
use Rattle.std.proofs.lemmas.Iterator.Search.{any_from_yields_List}
use Rattle.order.specs.Slots.{taken}
use Rattle.slots.specs.Made.{held}
use Rattle.slots.specs.HoldersLeft.{holders_left, capped}
use Rattle.slots.proofs.Places.{some_held}
use Rattle.slots.proofs.race.Search.brought.Goals as goal

pub returns : goal.returns
returns g c =
    let e = c.args.self.now.event in
    let m = g.K.Keeper.meaning c.args.self.now.slots.now.keeper in
    any_from_yields_List (held m c.args.slot) _ _ _ c.any.ensures.ran (YieldsList-from_first (λ x. x) holders_left (capped (taken e.action)) c.takes_from.ensures) (λ x b q k. search rules)
    ∙ some_held m c.args.slot (taken e.action)
