use Rattle.std.proofs.Common.{deque_len}
use Rattle.monitor.proofs.session.abandon_all.Given as goal

abbrev pub decreases-loop-call : goal.decreases-loop-call
decreases-loop-call l = deque_len l.calls
