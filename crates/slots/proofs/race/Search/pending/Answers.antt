use Rattle.std.proofs.Common.{not, sym, ap, ◌∙◌}
use Rattle.std.specs.Bool.{then_some}
use Rattle.slots.specs.Made.{held}
use Rattle.slots.specs.Serials.{number_at}
use Rattle.slots.proofs.Found.{pending_none, pending_some}
use Rattle.slots.proofs.race.Search.pending.Goals as goal

pub returns-in_err-serial : goal.returns-in_err-serial
returns-in_err-serial g c =
    let slots = c.args.self.now.slots.now in
    c.from_residual.ensures ∙ sym (pending_none c.args.self.now.event (number_at slots.serials c.args.slot) (held (g.K.Keeper.meaning slots.keeper) c.args.slot) (sym c.in_err-serial.ensures))

pub returns : goal.returns
returns g c =
    let slots = c.args.self.now.slots.now in
    let serial = c.in_ok-serial.serial in
    c.then_some.ensures
    ∙ ap (λ b. then_some (not b) serial) c.reached.ensures
    ∙ sym (pending_some c.args.self.now.event (number_at slots.serials c.args.slot) (held (g.K.Keeper.meaning slots.keeper) c.args.slot) serial (sym c.in_ok-serial.ensures))
