-- A run: the events of a file, one after another, each judged on the record so far. Assumes nothing.
--   recorded_all rec es    the record after the events es were offered, each judged on the record so far
--   listed fs n a          the findings after the event of number n was answered by a
--   Passes fs a            an event so answered does not end the run
--   Halts fs a c           an event so answered ends the run, for the cause c
--   Runs bytes p rec fs es o   from the place p, the record and the findings on, the events es are read and pass, and then
--                          the run comes to the outcome o
use Rattle.std.specs.Prelude.{◌≡◌, ℕ, ◌<◌, ◌≤◌, List, [], ◌∷◌, ◌++◌, length, Some, None, Ok, Err, Option, Result}
use Rattle.events.specs.declared.Event.{Event}
use Rattle.keepers.specs.declared.keeper.Keeper.{Ghosts}
use Rattle.order.specs.Judgement.{Answer, accepted, refused, declined, judge, recorded}
use Rattle.roster.specs.declared.fault.RuleFault.{RuleFault}
use Rattle.roster.specs.Numbers.{fault_number}
use Rattle.trace.specs.declared.fault.Refusal.{Refusal}
use Rattle.trace.specs.declared.fault.Site.{Site}
use Rattle.trace.specs.declared.place.Place.{Place}
use Rattle.trace.specs.Reading.{site, inside, next, after}
use Rattle.monitor.specs.declared.monitor.Monitor.{Monitor}
use Rattle.monitor.specs.Stands.{Stands}
use Rattle.certificate.specs.declared.fault.RunFault.{RunFault}
use Rattle.certificate.specs.declared.fault.RunFault.TheVariants.{TooManyFindings}
use Rattle.certificate.specs.declared.fault.Cause.{Cause}
use Rattle.certificate.specs.declared.fault.Cause.TheVariants.{Trace, Monitor as ByMonitor, Run as ByRun}
use Rattle.certificate.specs.declared.fault.Fault.{Fault}
use Rattle.certificate.specs.declared.finding.Finding.{Finding}
use Rattle.certificate.specs.declared.run.Run.{Run}

unfoldable pub recorded_all : List Event → List Event → List Event
recorded_all rec [] = rec
recorded_all rec (e ∷ es) = recorded_all (recorded rec e (judge rec e)) es

-- a decline becomes a finding
abbrev pub listed : List Finding → ℕ → Answer → List Finding
listed fs n (accepted s) = fs
listed fs n (refused k) = fs
listed fs n (declined p w) = fs ++ (record { event = n; place = p; witness = w } ∷ [])

-- an event passes if it is accepted, or declined while fewer than 1,000 findings are listed
abbrev pub Passes : List Finding → Answer → Type 0
Passes fs (accepted s) = Unit {0}
Passes fs (refused k) = ⊥
Passes fs (declined p w) = length fs < 1000

-- a refusal ends the run, and so does a decline that finds 1,000 findings listed
abbrev pub Halts : List Finding → Answer → Cause → Type 0
Halts fs (accepted s) c = ⊥
Halts fs (refused k) c = (f : RuleFault) × (c ≡ ByMonitor f) × (fault_number f ≡ k)
Halts fs (declined p w) c = (1000 ≤ length fs) × (c ≡ ByRun TooManyFindings)

-- what a run comes to: the record after it, the findings, the fault that ended it, if one did, and the reader's place
pub record Outcome : Type 0 where
  pub recorded_as : List Event
  pub findings : List Finding
  pub end : Option Fault
  pub place : Place

-- the end of a run, by what reading on answers: no more events, a fault of the file, or an event that halts it
abbrev pub StopsAs : Result (Option Event) Refusal → Site → List Event → List Finding → Option Fault → Type 0
StopsAs (Ok None) at rec fs end = end ≡ None
StopsAs (Err f) at rec fs end = end ≡ Some (record { cause = Trace f.fault; at = f.at })
StopsAs (Ok (Some e)) at rec fs end = (c : Cause) × Halts fs (judge rec e) c × (end ≡ Some (record { cause = c; at = at }))

-- record and findings stay, and the reader is before the event that halts, or at the file's end
pub record Stops (bytes : List ℕ) (p : Place) (rec : List Event) (fs : List Finding) (o : Outcome) : Type 0 where
  pub ends : StopsAs (next bytes p) (site bytes (inside bytes p)) rec fs o.end
  pub record_stays : o.recorded_as ≡ rec
  pub findings_stay : o.findings ≡ fs
  pub place_stays : o.place ≡ inside bytes p

unfoldable pub Runs : List ℕ → Place → List Event → List Finding → List Event → Outcome → Type 0
Runs bytes p rec fs [] o = Stops bytes p rec fs o
Runs bytes p rec fs (e ∷ es) o =
    (next bytes p ≡ Ok (Some e)) × Passes fs (judge rec e) × Runs bytes (after bytes p) (recorded rec e (judge rec e)) (listed fs (site bytes (inside bytes p)).event (judge rec e)) es o

-- one finding more, or too many
abbrev pub Added : List Finding → Finding → Result (Unit {0}) RunFault → List Finding → Type 0
Added fs f (Ok x) fs' = (length fs < 1000) × (fs' ≡ fs ++ (f ∷ []))
Added fs f (Err y) fs' = (1000 ≤ length fs) × (fs' ≡ fs) × (y ≡ TooManyFindings)

-- the event of number n, so answered, passes or halts the run
abbrev pub Put : List Finding → ℕ → Answer → Result (Unit {0}) Cause → List Finding → Type 0
Put fs n a (Ok x) fs' = Passes fs a × (fs' ≡ listed fs n a)
Put fs n a (Err c) fs' = Halts fs a c × (fs' ≡ fs)

-- the same with the cause's site
abbrev pub PutAt : List Finding → Site → Answer → Result (Unit {0}) Fault → List Finding → Type 0
PutAt fs at a (Ok x) fs' = Passes fs a × (fs' ≡ listed fs at.event a)
PutAt fs at a (Err f) fs' = Halts fs a f.cause × (f.at ≡ at) × (fs' ≡ fs)

module _ {K : Type 0} {its : Ghosts K} where
  unfoldable pub Took : Run K its → Event → Site → Result (Unit {0}) Fault → Run K its → Type 0
  Took s e at r t =
      (rec : List Event) → Stands rec s.monitor → PutAt s.findings at (judge rec e) r t.findings × Stands (recorded rec e (judge rec e)) t.monitor

  -- the run comes to this outcome, and the monitor stands for the record after it
  pub record CameTo (bytes : List ℕ) (p : Place) (rec : List Event) (fs : List Finding) (q : Place) (m : Monitor K its) (fs' : List Finding) (end : Option Fault) : Type 0 where
    pub events : List Event
    pub rec' : List Event
    pub runs : Runs bytes p rec fs events (record { recorded_as = rec'; findings = fs'; end = end; place = q })
    pub stands : Stands rec' m

  unfoldable pub RunOn : List ℕ → Place → Run K its → Place → Run K its → Option Fault → Type 0
  RunOn bytes p s q t end =
      (rec : List Event) → Stands rec s.monitor → CameTo bytes p rec s.findings q t.monitor t.findings end
