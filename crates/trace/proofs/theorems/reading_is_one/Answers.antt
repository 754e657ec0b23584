use Rattle.trace.proofs.OneFront.{one_front}
use Rattle.trace.proofs.theorems.reading_is_one.Goals as goal

pub returns : goal.returns
returns c = one_front
