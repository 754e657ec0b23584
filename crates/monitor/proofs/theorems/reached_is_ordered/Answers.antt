use Rattle.order.proofs.Reach.{reached_ordered}
use Rattle.monitor.proofs.theorems.reached_is_ordered.Goals as goal

pub returns : goal.returns
returns c = reached_ordered
