use Rattle.monitor.proofs.Soundness.{told_verdict}
use Rattle.monitor.proofs.monitor.Monitor.offer.Goals as goal

pub returns-clause-answer : goal.returns-clause-answer
returns-clause-answer g c rec stands = rw (c.from.ensures, told_verdict c.try_offer.result) (c.try_offer.ensures.answer rec stands)
