use Rattle.trace.proofs.Wholes.{every_front}
use Rattle.trace.proofs.theorems.reading_ends.Goals as goal

pub returns : goal.returns
returns c = every_front
