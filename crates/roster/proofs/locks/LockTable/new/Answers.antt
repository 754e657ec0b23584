-- Copies of a free lock are all free.
use mathlib.Core.Path.{fun_ext}
use Rattle.roster.proofs.Tables.{all_free}
use Rattle.roster.proofs.locks.LockTable.new.Goals as goal

pub returns : goal.returns
returns c = fun_ext (all_free c.free.result c.free.ensures)
