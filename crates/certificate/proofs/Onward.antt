-- A run, event by event. Assumes nothing.
use Rattle.std.proofs.Common.{◌≡◌, ℕ, true, false, List, [], ◌∷◌, ◌++◌, Some, None, Ok, Err, Option, Result, sym, refl, ap, ◌∙◌, subst}
use Rattle.std.proofs.lemmas.List.{append_assoc}
use Rattle.events.specs.declared.Event.{Event}
use Rattle.keepers.specs.declared.keeper.Keeper.{Ghosts}
use Rattle.order.specs.Judgement.{Answer, accepted, refused, declined, judge, recorded}
use Rattle.trace.specs.declared.fault.Refusal.{Refusal}
use Rattle.trace.specs.declared.fault.Site.{Site}
use Rattle.trace.specs.declared.place.Place.{Place}
use Rattle.trace.specs.Reading.{site, inside, next, after}
use Rattle.trace.specs.Handing.{HandedAs}
use Rattle.monitor.specs.Stands.{Stands}
use Rattle.certificate.specs.declared.fault.Cause.{Cause}
use Rattle.certificate.specs.declared.fault.Cause.TheVariants.{Trace}
use Rattle.certificate.specs.declared.fault.Fault.{Fault}
use Rattle.certificate.specs.declared.finding.Finding.{Finding}
use Rattle.certificate.specs.declared.run.Run.{Run}
use Rattle.certificate.specs.Running.{listed, Halts, Outcome, StopsAs, Runs, PutAt, Took, CameTo}

-- a fault of the file, as the run has it
abbrev pub Converts : Refusal → Fault → Type 0
Converts e r = (r.cause ≡ Trace e.fault) × (r.at ≡ e.at)

-- an event that halts a run leaves the record
halts_record : (rec : List Event) (e : Event) (fs : List Finding) (c : Cause) (a : Answer) → Halts fs a c → recorded rec e a ≡ rec
halts_record rec e fs c (accepted s) h = absurd h
halts_record rec e fs c (refused k) h = refl
halts_record rec e fs c (declined p w) h = refl

fault_is : (y : Fault) (c : Cause) (at : Site) → y.cause ≡ c → y.at ≡ at → ◌≡◌ {A = Option Fault} (Some y) (Some (record { cause = c; at = at }))
fault_is y c at g h = ap (λ x. Some (record { cause = x; at = y.at })) g ∙ ap (λ x. Some (record { cause = c; at = x })) h

module _ {K : Type 0} {its : Ghosts K} where
  -- the run stops, and nothing has changed
  pub record Stopped (o : Result (Option Event) Refusal) (at : Site) (stay : Place) (rec : List Event) (s t : Run K its) (q : Place) (end : Option Fault) : Type 0 where
    pub ends : StopsAs o at rec s.findings end
    pub place : q ≡ stay
    pub findings : t.findings ≡ s.findings
    pub stands : Stands rec t.monitor

  module _ (at : Site) (stay move : Place) (s t : Run K its) (q : Place) where
    -- an event was taken
    pub went : (o : Result (Option Event) Refusal) → HandedAs Took Converts o at stay move s t q (Ok true) → (e : Event) × (o ≡ Ok (Some e)) × Took s e at (Ok tt) t × (q ≡ move)
    went (Err f) h = absurd h.0
    went (Ok None) h = absurd (cc h.0)
    went (Ok (Some e)) (Ok x, h, i, j) = (e, refl, h, j)
    went (Ok (Some e)) (Err y, h, i, j) = absurd (cc)

    -- there was none
    pub none_left : (rec : List Event) → Stands rec s.monitor → (o : Result (Option Event) Refusal) → HandedAs Took Converts o at stay move s t q (Ok false) → Stopped o at stay rec s t q None
    none_left rec stands (Err f) h = absurd h.0
    none_left rec stands (Ok None) h = record {
      ends = refl;
      place = h.2;
      findings = ap (λ x. x.findings) h.1;
      stands = subst (λ x. Stands rec x.monitor) (sym h.1) stands;
    }
    none_left rec stands (Ok (Some e)) (Ok x, h, i, j) = absurd (cc)
    none_left rec stands (Ok (Some e)) (Err y, h, i, j) = absurd (cc)

    halted : (rec : List Event) (e : Event) (y : Fault) → PutAt s.findings at (judge rec e) (Err y) t.findings × Stands (recorded rec e (judge rec e)) t.monitor → q ≡ stay → Stopped (Ok (Some e)) at stay rec s t q (Some y)
    halted rec e y put place = record {
      ends = (y.cause, put.0.0, fault_is y y.cause at refl put.0.1);
      place = place;
      findings = put.0.2;
      stands = subst (λ r. Stands r t.monitor) (halts_record rec e _ y.cause (judge rec e) put.0.0) put.1;
    }

    -- there was a fault
    pub failed : (rec : List Event) → Stands rec s.monitor → (y : Fault) (o : Result (Option Event) Refusal) → HandedAs Took Converts o at stay move s t q (Err y) → Stopped o at stay rec s t q (Some y)
    unfolding Took
    failed rec stands y (Err f) h = record {
      ends = fault_is y (Trace f.fault) f.at h.0.0 h.0.1;
      place = h.2;
      findings = ap (λ x. x.findings) h.1;
      stands = subst (λ x. Stands rec x.monitor) (sym h.1) stands;
    }
    failed rec stands y (Ok None) h = absurd (cc h.0)
    failed rec stands y (Ok (Some e)) (Ok x, h, i, j) = absurd (cc)
    failed rec stands y (Ok (Some e)) (Err x, h, i, j) =
        let same : x ≡ y = cc in
        halted rec e y (subst (λ z. PutAt s.findings at (judge rec e) (Err z) t.findings × Stands (recorded rec e (judge rec e)) t.monitor) same (h rec stands)) j

  -- some events have passed: whatever a run from here comes to, the run from the start comes to
  pub record Sofar (bytes : List ℕ) (p : Place) (rec : List Event) (fs : List Finding) (q : Place) (s : Run K its) : Type 0 where
    pub passed : List Event
    pub rec' : List Event
    pub stands : Stands rec' s.monitor
    pub onward : (es : List Event) (o : Outcome) → Runs bytes q rec' s.findings es o → Runs bytes p rec fs (passed ++ es) o

  pub sofar_none : (bytes : List ℕ) (p : Place) (rec : List Event) (s : Run K its) → Stands rec s.monitor → Sofar bytes p rec s.findings p s
  sofar_none bytes p rec s stands = record { passed = []; rec' = rec; stands = stands; onward = λ es o r. r }

  module _ {bytes : List ℕ} {p : Place} {rec : List Event} {fs : List Finding} {q : Place} {s : Run K its} (sofar : Sofar bytes p rec fs q s) (t : Run K its) (q' : Place) where
    -- one event more
    pub sofar_more : (e : Event) → next bytes q ≡ Ok (Some e) → Took s e (site bytes (inside bytes q)) (Ok tt) t → q' ≡ after bytes q → Sofar bytes p rec fs q' t
    unfolding Took Runs
    sofar_more e reads took place =
        let r = sofar.rec' in
        let put = took r sofar.stands in
        record {
          passed = sofar.passed ++ (e ∷ []);
          rec' = recorded r e (judge r e);
          stands = put.1;
          onward = λ es o runs. subst (λ l. Runs bytes p rec fs l o) (sym (append_assoc sofar.passed (e ∷ []) es)) (sofar.onward (e ∷ es) o (reads, put.0.0, subst (λ z. Runs bytes z (recorded r e (judge r e)) (listed s.findings (site bytes (inside bytes q)).event (judge r e)) es o) place (subst (λ l. Runs bytes q' (recorded r e (judge r e)) l es o) put.0.1 runs)));
        }

    -- the run stops here
    pub sofar_stops : (end : Option Fault) → Stopped (next bytes q) (site bytes (inside bytes q)) (inside bytes q) sofar.rec' s t q' end → CameTo bytes p rec fs q' t.monitor t.findings end
    unfolding Runs
    sofar_stops end stopped = record {
      events = sofar.passed ++ [];
      rec' = sofar.rec';
      runs = sofar.onward [] _ (record { ends = stopped.ends; record_stays = refl; findings_stay = stopped.findings; place_stays = stopped.place });
      stands = stopped.stands;
    }
