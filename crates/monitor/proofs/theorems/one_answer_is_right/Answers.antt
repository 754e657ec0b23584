use Rattle.order.proofs.Verdicts.{right_unique}
use Rattle.monitor.proofs.theorems.one_answer_is_right.Goals as goal

pub returns : goal.returns
returns c = right_unique
