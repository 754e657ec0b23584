-- A record for which a monitor stands is sound, and the judgement on it is right. Assumes nothing.
use Rattle.std.proofs.Common.{◌≡◌, List, Ok, Err, Result, sym, refl}
use Rattle.events.specs.declared.Event.{Event}
use Rattle.keepers.specs.declared.keeper.Keeper.{Ghosts}
use Rattle.order.specs.Conflicts.{RaceFree}
use Rattle.order.specs.Faults.{Lawful}
use Rattle.order.specs.Judgement.{Answer, judge, recorded}
use Rattle.order.specs.Verdicts.{Right}
use Rattle.order.proofs.Judgement.{right_at}
use Rattle.order.proofs.Rearrangements.{own_order, same_reads}
use Rattle.order.proofs.Roster.{holder_runs}
use Rattle.roster.specs.declared.fault.RuleFault.{RuleFault}
use Rattle.monitor.specs.declared.monitor.Monitor.{Monitor}
use Rattle.monitor.specs.declared.verdict.Decision.{Decision}
use Rattle.monitor.specs.declared.verdict.Decision.TheVariants.{Accepted, Declined}
use Rattle.monitor.specs.Answers.{told, decided, verdict_of}
use Rattle.monitor.specs.Offers.{Judged}
use Rattle.monitor.specs.Sound.{Sound}
use Rattle.monitor.specs.Stands.{Stands}

-- a lawful and race-free record is sound
pub sound_from : (rec : List Event) → Lawful rec → RaceFree rec → Sound rec
sound_from rec lawful free =
    record { ordered = free; holders = λ l t h. (holder_runs rec lawful l t h).1; reads = same_reads rec free; own = own_order rec }

module _ {K : Type 0} {its : Ghosts K} {rec : List Event} {m : Monitor K its} (stands : Stands rec m) where
  pub standing_sound : Sound rec × ((e : Event) → Right rec e (judge rec e))
  standing_sound = (sound_from rec stands.lawful stands.free, λ e. right_at rec e stands.lawful stands.free (judge rec e) refl)

  -- the judgement's answer is right, and what the monitor then stands for is sound
  pub judged_from : (e : Event) (a : Answer) (m' : Monitor K its) → a ≡ judge rec e → Stands (recorded rec e a) m' → Judged rec e a m'
  judged_from e a m' judged after = record {
    answer = record { judged = judged; right = right_at rec e stands.lawful stands.free a (sym judged) };
    stands = after;
    sound = sound_from (recorded rec e a) after.lawful after.free;
  }

-- a verdict says what the decision or the refusal says of which it is made
pub told_verdict : (r : Result Decision RuleFault) → told (verdict_of r) ≡ decided r
told_verdict (Ok (Accepted serial)) = refl
told_verdict (Ok (Declined place witness)) = refl
told_verdict (Err fault) = refl
