-- What the outcome of a run says of the file, in the subject's words. Assumes nothing.
--   NamesRace rec n es f   the finding f names one of the events es, offered after the record: the events before it were
--                          offered too, and it was rightly declined, for a race at the finding's place with its witness;
--                          n events of the file came before es
--   Ascends n fs           the findings fs stand in the order of their events, all of them after event n
--   ListsRaces rec n es fs   fs are the races of the events es, offered after the record: each is real, none is left out, and they
--                          stand in the events' order
--   EndsBy bytes o at c    what is said of a fault at the site `at` for the cause c: it is the refusal of the file by the first
--                          rule that applies before its first event; or `at` is the site of the event at which the reader was
--                          left, and that is refused by the first of the file's rules or of the judgement's that applies, or
--                          was declined, for a race, when 1,000 findings were listed
--   EndsRightly bytes o f  the same of the fault f, cause and site
--   ReadOut bytes p es     the file opens and is read to its end, and es are its events from the place p on
--   Sentence bytes p rec es o   what is said of the run of the events es from the place p and the record on, with no findings at first,
--                          which came to the outcome o
use Rattle.std.specs.Prelude.{◌≡◌, ℕ, ◌+◌, ◌<◌, ◌≤◌, ◌⊎◌, List, [], ◌∷◌, ◌++◌, map, reverse, length, Contains, Some, None, Ok, Option}
use Rattle.std.specs.List.{AllByRecursion}
use Rattle.events.specs.declared.Event.{Event}
use Rattle.keepers.specs.declared.keeper.Keeper.{Ghosts}
use Rattle.order.specs.Judgement.{declined, refused}
use Rattle.order.specs.Verdicts.{Right}
use Rattle.roster.specs.Numbers.{fault_number}
use Rattle.trace.specs.declared.place.Place.{Place}
use Rattle.trace.specs.declared.fault.Site.{Site}
use Rattle.trace.specs.Layout.{opening}
use Rattle.trace.specs.Reading.{inside, next}
use Rattle.trace.specs.Refusals.{FirstRefusal, EventSite, EventRefusal}
use Rattle.trace.specs.Whole.{Reads}
use Rattle.monitor.specs.declared.monitor.Monitor.{Monitor}
use Rattle.monitor.specs.Sound.{Sound}
use Rattle.monitor.specs.Stands.{Stands}
use Rattle.certificate.specs.declared.fault.Cause.{Cause}
use Rattle.certificate.specs.declared.fault.Cause.TheVariants.{Trace, Monitor as ByMonitor, Run as ByRun}
use Rattle.certificate.specs.declared.fault.Fault.{Fault}
use Rattle.certificate.specs.declared.finding.Finding.{Finding}
use Rattle.certificate.specs.Running.{recorded_all, Outcome, CameTo}

pub record NamesRace (rec : List Event) (n : ℕ) (es : List Event) (f : Finding) : Type 0 where
  pub earlier : List Event
  pub event : Event
  pub later : List Event
  pub stands_in : es ≡ earlier ++ (event ∷ later)
  pub numbered : f.event ≡ n + length earlier + 1
  pub real : Right (recorded_all rec earlier) event (declined f.place f.witness)

abbrev pub Ascends : ℕ → List Finding → Type 0
Ascends n [] = Unit {0}
Ascends n (f ∷ fs) = (n < f.event) × Ascends f.event fs

pub record ListsRaces (rec : List Event) (n : ℕ) (es : List Event) (fs : List Finding) : Type 0 where
  pub real : AllByRecursion (NamesRace rec n es) fs
  pub complete : (f : Finding) → NamesRace rec n es f → Contains fs f
  pub in_order : Ascends n fs

abbrev pub EndsBy : List ℕ → Outcome → Site → Cause → Type 0
EndsBy bytes o at (Trace k) =
    FirstRefusal bytes (record { fault = k; at = at }) ⊎ EventRefusal bytes o.place (record { fault = k; at = at })
EndsBy bytes o at (ByMonitor f) =
    EventSite bytes o.place at × ((p : Place) × (e : Event) × (o.place ≡ inside bytes p) × (next bytes p ≡ Ok (Some e)) × Right o.recorded_as e (refused (fault_number f)))
EndsBy bytes o at (ByRun f) =
    EventSite bytes o.place at × (1000 ≤ length o.findings) × ((p : Place) × (e : Event) × (q : ℕ) × (w : ℕ) × (o.place ≡ inside bytes p) × (next bytes p ≡ Ok (Some e)) × Right o.recorded_as e (declined q w))

abbrev pub EndsRightly : List ℕ → Outcome → Fault → Type 0
EndsRightly bytes o f = EndsBy bytes o f.at f.cause

pub record ReadOut (bytes : List ℕ) (p : Place) (es : List Event) : Type 0 where
  pub opens : opening bytes ≡ None
  pub sectioned : List (ℕ × Event)
  pub reads : Reads bytes (inside bytes p) sectioned None
  pub events : map (λ t. t.1) sectioned ≡ es

pub record Sentence (bytes : List ℕ) (p : Place) (rec : List Event) (es : List Event) (o : Outcome) : Type 0 where
  -- the record after the run is that of the events that were accepted, and conflicting accesses of it are ordered; every
  -- rearrangement that keeps thread order and hand-overs gives each read the same latest write
  pub record_is : o.recorded_as ≡ recorded_all rec es
  pub sound : Sound o.recorded_as
  -- without a fault and without findings every event is accepted, in the file's order
  pub clean : o.end ≡ None → o.findings ≡ [] → o.recorded_as ≡ reverse es ++ rec
  -- the findings are the races, each of them once and in the file's order
  pub races : ListsRaces rec (inside bytes p).events es o.findings
  -- the reader has counted the events that were read, and without a fault there is no other
  pub counted : o.place.events ≡ (inside bytes p).events + length es
  pub whole : o.end ≡ None → ReadOut bytes p es
  -- a refusal is the first that applies, and is told at its site
  pub first : (f : Fault) → o.end ≡ Some f → EndsRightly bytes o f

module _ {K : Type 0} {its : Ghosts K} where
  -- a run with no findings at first comes to what the rules say, and that says this of the file
  pub record Certified (bytes : List ℕ) (p : Place) (rec : List Event) (q : Place) (m : Monitor K its) (fs : List Finding) (end : Option Fault) : Type 0 where
    pub came : CameTo bytes p rec [] q m fs end
    pub says : Sentence bytes p rec came.events (record { recorded_as = came.rec'; findings = fs; end = end; place = q })

  -- the run of a file by the monitor m, which leaves the monitor m', the findings and the fault that ended it
  abbrev pub RanWhole : List ℕ → Place → Monitor K its → Place → Monitor K its → List Finding → Option Fault → Type 0
  RanWhole bytes p m q m' fs end = (rec : List Event) → Stands rec m → Certified bytes p rec q m' fs end
