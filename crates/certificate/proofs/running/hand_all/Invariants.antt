use Rattle.std.proofs.Common.{◌≡◌, ◌-◌, List, length}
use Rattle.events.specs.declared.Event.{Event}
use Rattle.monitor.specs.Stands.{Stands}
use Rattle.certificate.proofs.Onward.{Sofar}
use Rattle.certificate.proofs.running.hand_all.Given as goal

-- whatever the run from here comes to, the run from the start comes to
abbrev pub invariant-loop : goal.invariant-loop
invariant-loop g l =
    (l.reader.bytes.now ≡ l.initial.reader.bytes.now)
    × ((rec : List Event) → Stands rec l.initial.run.monitor → Sofar l.initial.reader.bytes.now l.initial.reader.at rec l.initial.run.findings l.reader.at l.run)

abbrev pub decreases-loop : goal.decreases-loop
decreases-loop g l = length l.initial.reader.bytes.now - l.reader.at.byte
