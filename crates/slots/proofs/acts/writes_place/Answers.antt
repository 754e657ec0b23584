use Rattle.std.proofs.lemmas.Bool.Decides.{nat_tests}
use Rattle.std.proofs.Common.{arith}
use Rattle.order.proofs.Computing.{acts}
use Rattle.slots.proofs.acts.writes_place.Goals as goal

pub returns-in-Write : goal.returns-in-Write
unfolding acts
returns-in-Write c = rw c.in-Write.is (grind (arith, nat_tests))

pub returns-in-Commit : goal.returns-in-Commit
unfolding acts
returns-in-Commit c = rw c.in-Commit.is c.contains.ensures

pub returns-in_default : goal.returns-in_default
unfolding acts
returns-in_default c = grind (arith, c.in_default.not-Write, c.in_default.not-Commit)
