use Rattle.order.proofs.Examples.{as_worked}
use Rattle.monitor.proofs.theorems.examples_are_judged.Goals as goal

pub returns : goal.returns
returns c = as_worked
