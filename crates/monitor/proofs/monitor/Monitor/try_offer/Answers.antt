use Rattle.std.proofs.Common.{sym}
use Rattle.std.proofs.lemmas.Result.{err_from_is_err_and}
use Rattle.monitor.proofs.Soundness.{judged_from}
use Rattle.monitor.proofs.monitor.Monitor.try_offer.Goals as goal

pub returns-in_err-decision-clause-answer : goal.returns-in_err-decision-clause-answer
returns-in_err-decision-clause-answer g c rec stands =
    let p = err_from_is_err_and c.from_residual.result c.from_residual.ensures.1 in
    rw (p.1, p.2) (judged_from stands c.args.event _ _ (c.in_err-decision.ensures rec stands) stands)

pub returns-in-Accepted-clause-answer : goal.returns-in-Accepted-clause-answer
returns-in-Accepted-clause-answer g c rec stands =
    let judged = rw c.in-Accepted.is at (c.in_ok-decision.ensures rec stands) in
    judged_from stands c.args.event _ _ judged (c.accept.ensures.stands rec stands (sym judged))

pub returns-in_default-clause-answer : goal.returns-in_default-clause-answer
returns-in_default-clause-answer g c rec stands =
    let judged = rw c.in_default.is at (c.in_ok-decision.ensures rec stands) in
    rw c.in_default.is (judged_from stands c.args.event _ _ judged stands)
