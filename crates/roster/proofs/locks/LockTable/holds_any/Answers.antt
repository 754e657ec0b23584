-- What the search of the table finds.
use Rattle.std.proofs.Common.{arith, rules}
use Rattle.roster.proofs.Tables.{holds_searched}
use Rattle.roster.proofs.locks.LockTable.holds_any.Goals as goal

pub returns : goal.returns
returns c = holds_searched c.args.self.now c.args.thread c.any.result (omega arith) (search rules)
