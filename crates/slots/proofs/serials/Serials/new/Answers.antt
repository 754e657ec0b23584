use Rattle.slots.specs.Serials.{number_at}
use Rattle.slots.proofs.Numbers.{in_none}
use Rattle.slots.proofs.serials.Serials.new.Goals as goal

pub returns : goal.returns
unfolding number_at
returns c = in_none
