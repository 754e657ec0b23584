-- What the outcome of a run says of the file. Assumes nothing.
use Rattle.std.specs.List.{AllByRecursion}
use Rattle.std.proofs.Common.{◌≡◌, ℕ, ◌+◌, ◌≤◌, ◌⊎◌, List, [], ◌∷◌, ◌++◌, reverse, length, Some, None, Ok, Err, Option, Result, sym, refl, ap, ◌∙◌, subst, arith}
use Rattle.std.proofs.lemmas.List.{append_assoc, length-append, reverse-append}
use Rattle.std.proofs.ByRecursion.{All-push}
use Rattle.events.specs.declared.Event.{Event}
use Rattle.order.specs.Conflicts.{RaceFree}
use Rattle.order.specs.Faults.{Lawful}
use Rattle.order.specs.Judgement.{Answer, accepted, refused, declined, judge, recorded}
use Rattle.order.specs.Verdicts.{Right}
use Rattle.order.proofs.Judgement.{right_at, recorded_sound}
use Rattle.monitor.proofs.Soundness.{sound_from}
use Rattle.roster.specs.Numbers.{fault_number}
use Rattle.trace.specs.declared.fault.Refusal.{Refusal}
use Rattle.trace.specs.declared.fault.Site.{Site}
use Rattle.trace.specs.declared.place.Place.{Place}
use Rattle.trace.specs.Layout.{section_at}
use Rattle.trace.specs.Reading.{site, inside, moved, next, after}
use Rattle.trace.specs.Refusals.{FirstRefusal, EventSite, EventRefusal}
use Rattle.trace.specs.Whole.{Reads}
use Rattle.trace.proofs.Answered.{Begun, inside_behind, inside_again, next_event, next_none, next_refusal, some_after, begun_after}
use Rattle.trace.proofs.Refusals.{event_site}
use Rattle.trace.proofs.Sections.{reads_more, reads_end}
use Rattle.certificate.specs.declared.fault.Cause.{Cause}
use Rattle.certificate.specs.declared.fault.Cause.TheVariants.{Trace}
use Rattle.certificate.specs.declared.fault.Fault.{Fault}
use Rattle.certificate.specs.declared.finding.Finding.{Finding}
use Rattle.certificate.specs.Running.{recorded_all, listed, Passes, Halts, Outcome, StopsAs, Runs}
use Rattle.certificate.specs.Sentence.{NamesRace, EndsBy, EndsRightly, ReadOut, Sentence}
use Rattle.certificate.proofs.Ahead.{counted}
use Rattle.certificate.proofs.Listings.{grown, lists_races, in_order}

-- a finding more is rightly listed
listed_right : (Q : Finding → Type 0) (fs : List Finding) (n : ℕ) (rec : List Event) (e : Event) (a : Answer) → AllByRecursion Q fs → Right rec e a → ((p w : ℕ) → Right rec e (declined p w) → Q (record { event = n; place = p; witness = w })) → AllByRecursion Q (listed fs n a)
listed_right Q fs n rec e (accepted s) all right found = all
listed_right Q fs n rec e (refused k) all right found = all
listed_right Q fs n rec e (declined p w) all right found = All-push Q fs _ all (found p w right)

-- what is known after a run
record Known (bytes : List ℕ) (rec es : List Event) (Q : Finding → Type 0) (o : Outcome) : Type 0 where
  pub record_is : o.recorded_as ≡ recorded_all rec es
  pub lawful : Lawful o.recorded_as
  pub free : RaceFree o.recorded_as
  pub races : AllByRecursion Q o.findings
  pub first : (f : Fault) → o.end ≡ Some f → EndsRightly bytes o f

-- the run stops at p with the record and the findings that it has
module _ (bytes : List ℕ) (p : Place) (begun : Begun bytes p) (rec : List Event) (lawful : Lawful rec) (free : RaceFree rec) (fs : List Finding) (o : Outcome) (place : o.place ≡ inside bytes p) (same : o.recorded_as ≡ rec) (stay : o.findings ≡ fs) where
  abbrev here : Site
  here = site bytes (inside bytes p)

  at_event : (e : Event) → next bytes p ≡ Ok (Some e) → EventSite bytes o.place here
  at_event e reads =
      let read = next_event bytes p e reads in
      subst (λ q. EventSite bytes q here) (sym place) (event_site bytes (inside bytes p) read.opens (inside_behind bytes p read.opens begun) read.more)

  halt_right : (e : Event) → next bytes p ≡ Ok (Some e) → (a : Answer) → Right rec e a → (c : Cause) → Halts fs a c → EndsBy bytes o here c
  halt_right e reads (accepted s) right c h = absurd h
  halt_right e reads (refused k) right c (f, is, number) =
      subst (EndsBy bytes o here) (sym is) (at_event e reads, (p, e, place, reads, subst (λ r. Right r e (refused (fault_number f))) (sym same) (subst (λ n. Right rec e (refused n)) (sym number) right)))
  halt_right e reads (declined q w) right c (many, is) =
      subst (EndsBy bytes o here) (sym is) (at_event e reads, let size = ap length stay in omega arith, (p, e, q, w, place, reads, subst (λ r. Right r e (declined q w)) (sym same) right))

  stop_right : (r : Result (Option Event) Refusal) → next bytes p ≡ r → StopsAs r here rec fs o.end → (f : Fault) → o.end ≡ Some f → EndsRightly bytes o f
  stop_right (Ok None) reads h f end = absurd (cc)
  stop_right (Err r) reads h f end =
      let is : f ≡ record { cause = Trace r.fault; at = r.at } = cc in
      subst (EndsRightly bytes o) (sym is) (subst (λ q. FirstRefusal bytes r ⊎ EventRefusal bytes q r) (sym place) (next_refusal bytes p begun r reads))
  stop_right (Ok (Some e)) reads (c, halts, h) f end =
      let is : f ≡ record { cause = c; at = here } = cc in
      subst (EndsRightly bytes o) (sym is) (halt_right e reads (judge rec e) (right_at rec e lawful free (judge rec e) refl) c halts)

known : (bytes : List ℕ) (p : Place) (rec : List Event) (fs : List Finding) (es : List Event) (o : Outcome) (Q : Finding → Type 0) → Begun bytes p → Lawful rec → RaceFree rec → AllByRecursion Q fs → ((f : Finding) → NamesRace rec (inside bytes p).events es f → Q f) → Runs bytes p rec fs es o → Known bytes rec es Q o
unfolding Runs recorded_all
known bytes p rec fs [] o Q begun lawful free all found stops = record {
  record_is = stops.record_stays;
  lawful = subst Lawful (sym stops.record_stays) lawful;
  free = subst RaceFree (sym stops.record_stays) free;
  races = subst (AllByRecursion Q) (sym stops.findings_stay) all;
  first = stop_right bytes p begun rec lawful free fs o stops.place_stays stops.record_stays stops.findings_stay (next bytes p) refl stops.ends;
}
known bytes p rec fs (e ∷ es) o Q begun lawful free all found (reads, passes, runs) =
    let a = judge rec e in
    let right = right_at rec e lawful free a refl in
    let kept = recorded_sound rec e lawful free in
    let n = (inside bytes p).events in
    let count = counted bytes p e reads in
    let here : (q w : ℕ) → Right rec e (declined q w) → Q (record { event = n + 1; place = q; witness = w }) = λ q w r. found _ (record { earlier = []; event = e; later = es; stands_in = refl; numbered = omega arith; real = r }) in
    let later : (f : Finding) → NamesRace (recorded rec e a) (inside bytes (after bytes p)).events es f → Q f = λ f r. found f (record { earlier = e ∷ r.earlier; event = r.event; later = r.later; stands_in = ap (λ l. e ∷ l) r.stands_in; numbered = omega (arith, r.numbered); real = r.real }) in
    let rest = known bytes (after bytes p) (recorded rec e a) (listed fs (n + 1) a) es o Q (begun_after bytes p begun e reads) kept.0 kept.1 (listed_right Q fs (n + 1) rec e a all right here) later runs in
    record { record_is = rest.record_is; lawful = rest.lawful; free = rest.free; races = rest.races; first = rest.first }

-- each event that was read is counted
all_counted : (bytes : List ℕ) (p : Place) (rec : List Event) (fs : List Finding) (es : List Event) (o : Outcome) → Runs bytes p rec fs es o → o.place.events ≡ (inside bytes p).events + length es
unfolding Runs
all_counted bytes p rec fs [] o stops = let same = ap (λ q. q.events) stops.place_stays in omega arith
all_counted bytes p rec fs (e ∷ es) o (reads, passes, runs) =
    let one = counted bytes p e reads in
    let rest = all_counted bytes (after bytes p) (recorded rec e (judge rec e)) (listed fs ((inside bytes p).events + 1) (judge rec e)) es o runs in
    omega arith

-- without a fault the file was read to its end
none_more : (r : Result (Option Event) Refusal) (at : Site) (rec : List Event) (fs : List Finding) (end : Option Fault) → StopsAs r at rec fs end → end ≡ None → r ≡ Ok None
none_more (Ok None) at rec fs end h none = refl
none_more (Err f) at rec fs end h none = absurd (cc)
none_more (Ok (Some e)) at rec fs end (c, halts, h) none = absurd (cc)

read_out : (bytes : List ℕ) (p : Place) (rec : List Event) (fs : List Finding) (es : List Event) (o : Outcome) → o.end ≡ None → Runs bytes p rec fs es o → ReadOut bytes p es
unfolding Runs
read_out bytes p rec fs [] o end stops =
    let none = next_none bytes p (none_more (next bytes p) (site bytes (inside bytes p)) rec fs o.end stops.ends end) in
    record { opens = none.0; sectioned = []; reads = reads_end bytes (inside bytes p) none.1; events = refl }
read_out bytes p rec fs (e ∷ es) o end (reads, passes, runs) =
    let read = next_event bytes p e reads in
    let q = inside bytes p in
    let on : inside bytes (after bytes p) ≡ moved bytes q = inside_again bytes (after bytes p) (some_after bytes p e reads) ∙ read.moves in
    let rest = read_out bytes (after bytes p) (recorded rec e (judge rec e)) (listed fs (q.events + 1) (judge rec e)) es o end runs in
    record {
      opens = read.opens;
      sectioned = (section_at bytes q.byte, e) ∷ rest.sectioned;
      reads = reads_more bytes q (section_at bytes q.byte) e rest.sectioned None read.more refl read.takes (subst (λ x. Reads bytes x rest.sectioned None) on rest.reads);
      events = ap (λ l. e ∷ l) rest.events;
    }

-- findings are never taken back
grows : (bytes : List ℕ) (p : Place) (rec : List Event) (fs : List Finding) (es : List Event) (o : Outcome) → Runs bytes p rec fs es o → length fs ≤ length o.findings
grows bytes p rec fs es o runs =
    let grew = grown bytes p rec fs es o runs in
    let size = ap length grew.is ∙ length-append fs grew.new in
    omega arith

-- without findings each event that passed was accepted
passed_record : (rec : List Event) (fs : List Finding) (n k : ℕ) (e : Event) (a : Answer) → Passes fs a → length (listed fs n a) ≤ k → k ≡ 0 → recorded rec e a ≡ e ∷ rec
passed_record rec fs n k e (accepted s) passes few none = refl
passed_record rec fs n k e (refused x) passes few none = absurd passes
passed_record rec fs n k e (declined p w) passes few none = absurd (let long = length-append fs (record { event = n; place = p; witness = w } ∷ []) in omega arith)

all_accepted : (bytes : List ℕ) (p : Place) (rec : List Event) (fs : List Finding) (es : List Event) (o : Outcome) → o.findings ≡ [] → Runs bytes p rec fs es o → recorded_all rec es ≡ reverse es ++ rec
unfolding Runs recorded_all
all_accepted bytes p rec fs [] o none stops = refl
all_accepted bytes p rec fs (e ∷ es) o none (reads, passes, runs) =
    let few = grows bytes (after bytes p) (recorded rec e (judge rec e)) (listed fs ((inside bytes p).events + 1) (judge rec e)) es o runs in
    let took = passed_record rec fs ((inside bytes p).events + 1) (length o.findings) e (judge rec e) passes few (ap length none) in
    let rest = all_accepted bytes (after bytes p) (recorded rec e (judge rec e)) (listed fs ((inside bytes p).events + 1) (judge rec e)) es o none runs in
    rest ∙ ap (λ r. reverse es ++ r) took ∙ sym (append_assoc (reverse es) (e ∷ []) rec) ∙ ap (λ l. l ++ rec) (sym (reverse-append (e ∷ []) es))

pub sentence : (bytes : List ℕ) (p : Place) (rec es : List Event) (o : Outcome) → Begun bytes p → Lawful rec → RaceFree rec → Runs bytes p rec [] es o → Sentence bytes p rec es o
sentence bytes p rec es o begun lawful free runs =
    let all = known bytes p rec [] es o (NamesRace rec (inside bytes p).events es) begun lawful free tt (λ f r. r) runs in
    record {
      record_is = all.record_is;
      sound = sound_from o.recorded_as all.lawful all.free;
      clean = λ end none. all.record_is ∙ all_accepted bytes p rec [] es o none runs;
      races = record { real = all.races; complete = lists_races bytes p rec es o lawful free runs; in_order = in_order bytes p rec es o runs };
      counted = all_counted bytes p rec [] es o runs;
      whole = λ end. read_out bytes p rec [] es o end runs;
      first = all.first;
    }
