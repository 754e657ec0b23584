use Rattle.trace.proofs.Rewrite.{rewritten}
use Rattle.trace.proofs.theorems.rewriting_gives_the_same.Goals as goal

pub returns : goal.returns
returns c = rewritten
