use Rattle.std.proofs.Common.{arith}
use Rattle.slots.specs.Serials.{number_at}
use Rattle.slots.proofs.Numbers.{in_set}
use Rattle.slots.proofs.serials.Serials.put.Goals as goal

pub returns-then-slot-lt-SLOTS : goal.returns-then-slot-lt-SLOTS
unfolding number_at
returns-then-slot-lt-SLOTS c = in_set c.args.self.now.numbers c.args.slot c.args.serial (omega arith) (omega arith)
