use Rattle.order.proofs.Questions.{slot_stands}
use Rattle.monitor.proofs.theorems.slots_stand_for_latest.Goals as goal

pub returns : goal.returns
returns c = slot_stands
