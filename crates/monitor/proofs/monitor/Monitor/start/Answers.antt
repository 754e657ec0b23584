use Rattle.std.proofs.Common.{refl}
use Rattle.monitor.proofs.Standing.{stands_none}
use Rattle.monitor.proofs.monitor.Monitor.start.Goals as goal

pub returns-clause-stands : goal.returns-clause-stands
returns-clause-stands g c =
    let slots = c.start.ensures in
    stands_none _ refl c.new.ensures slots.lives slots.keeper slots.serials
