use Rattle.trace.proofs.ReadOn.{front_is_read_on}
use Rattle.trace.proofs.theorems.reading_on_gives_the_front.Goals as goal

pub returns : goal.returns
returns c = front_is_read_on
