use Rattle.std.proofs.Common.{None, sym, ap, ◌∙◌, arith}
use Rattle.std.proofs.lemmas.Result.{err_from_is_err_and}
use Rattle.order.specs.Judgement.{accepted}
use Rattle.monitor.proofs.Standing.{judged_refused, judged_by_race}
use Rattle.monitor.proofs.monitor.Monitor.check.Goals as goal

pub returns-in_err-rule : goal.returns-in_err-rule
returns-in_err-rule g c rec stands =
    let p = err_from_is_err_and c.from_residual.result c.from_residual.ensures.1 in
    rw (p.1, p.2) (sym (judged_refused stands c.args.event c.in_err-rule.field-0.0 c.in_err-rule.ensures))

pub returns-in-Some : goal.returns-in-Some
returns-in-Some g c rec stands = sym (judged_by_race stands c.args.event c.in_ok-rule.ensures _ c.in-Some.ensures)

pub returns-in-None : goal.returns-in-None
returns-in-None g c rec stands =
    ap accepted (omega (arith, c.saturating_add.ensures)) ∙ sym (judged_by_race stands c.args.event c.in_ok-rule.ensures None c.in-None.ensures)
