use Rattle.order.proofs.PassCounts.{commit_passes}
use Rattle.monitor.proofs.theorems.commits_pass_twice.Goals as goal

pub returns : goal.returns
returns c = commit_passes
