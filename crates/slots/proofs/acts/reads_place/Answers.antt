use Rattle.std.proofs.Common.{not, ◌&&◌, ap, ◌∙◌, arith}
use Rattle.std.proofs.lemmas.Bool.Decides.{nat_tests}
use Rattle.events.specs.Places.{member}
use Rattle.order.proofs.Computing.{acts}
use Rattle.slots.proofs.acts.reads_place.Goals as goal

pub returns-in-Read : goal.returns-in-Read
unfolding acts
returns-in-Read c = rw c.in-Read.is (grind (arith, nat_tests))

pub returns-then-contains : goal.returns-then-contains
unfolding acts
returns-then-contains c =
    rw c.in-Commit.is (ap not c.contains-then-contains.ensures ∙ ap (λ b. b && not (member c.in-Commit.writes.word c.args.place)) c.if-contains.ensures)

pub returns-else-contains : goal.returns-else-contains
unfolding acts
returns-else-contains c =
    rw c.in-Commit.is (c.if-contains.false ∙ ap (λ b. b && not (member c.in-Commit.writes.word c.args.place)) c.if-contains.ensures)

pub returns-in_default : goal.returns-in_default
unfolding acts
returns-in_default c = grind (arith, c.in_default.not-Read, c.in_default.not-Commit)
