use Rattle.std.proofs.Common.{refl}
use Rattle.std.proofs.Math.Logic.{∥∥₁_elim}
use Rattle.std.proofs.Props.{props}
use Rattle.monitor.proofs.Standing.{stands_more}
use Rattle.monitor.proofs.monitor.Monitor.accept.Goals as goal

pub returns-clause-stands : goal.returns-clause-stands
returns-clause-stands g c rec stands took =
    let work = c.work.ensures in
    let done = work.keeper stands.lives in
    stands_more stands c.args.event _ c.args.serial took refl c.note.ensures done.0 done.1 work.serials

pub returns-clause-keeper : goal.returns-clause-keeper
returns-clause-keeper g c =
    ∥∥₁_elim c.args.self.now.slots.lives (Prim.hlevel props) (λ live. (c.work.ensures.keeper live).1)
