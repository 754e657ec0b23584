use Rattle.order.proofs.Chains.{ordered_decides}
use Rattle.monitor.proofs.theorems.order_is_decided.Goals as goal

pub returns : goal.returns
returns c = ordered_decides
