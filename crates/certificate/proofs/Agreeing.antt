-- A file has one outcome, and so one certificate. Assumes nothing.
use Rattle.std.proofs.Common.{◌≡◌, ℕ, ◌≤◌, List, [], ◌∷◌, length, IfOk, Some, None, Ok, Err, string_bytes, Option, Result, String, sym, ap, ◌∙◌, subst, arith}
use Rattle.events.specs.declared.Event.{Event}
use Rattle.order.specs.Judgement.{Answer, accepted, refused, declined, judge, recorded}
use Rattle.roster.proofs.Numbers.{same_fault}
use Rattle.trace.specs.declared.fault.Refusal.{Refusal}
use Rattle.trace.specs.declared.fault.Site.{Site}
use Rattle.trace.specs.declared.place.Place.{Place}
use Rattle.trace.specs.Reading.{site, inside, outside, next, after}
use Rattle.certificate.specs.declared.fault.Cause.{Cause}
use Rattle.certificate.specs.declared.fault.Cause.TheVariants.{Monitor as ByMonitor}
use Rattle.certificate.specs.declared.fault.Fault.{Fault}
use Rattle.certificate.specs.declared.finding.Finding.{Finding}
use Rattle.certificate.specs.Running.{listed, Passes, Halts, Outcome, StopsAs, Runs}
use Rattle.std.specs.declared.alloc.AllocError.{AllocError}
use Rattle.std.specs.declared.alloc.Global.{Global}
use Rattle.keepers.specs.declared.keeper.Keeper.{Ghosts}
use Rattle.monitor.specs.declared.monitor.Monitor.{Monitor}
use Rattle.monitor.specs.Stands.{Stands}
use Rattle.certificate.specs.declared.text.TheConstants.{LONGEST_TEXT}
use Rattle.certificate.specs.Sentence.{Sentence, Certified}
use Rattle.certificate.specs.Texts.{text}
use Rattle.certificate.specs.Certified.{Certifies, Agree}
use Rattle.certificate.specs.MadeBy.{MadeOver}
use Rattle.certificate.proofs.Bounds.{fits}
use Rattle.certificate.proofs.LastLines.{tells}

-- two causes that halt a run at one event are the same
same_halt : (fs : List Finding) (a : Answer) (c d : Cause) → Halts fs a c → Halts fs a d → c ≡ d
same_halt fs (accepted s) c d h k = absurd h
same_halt fs (refused n) c d (f, is, number) (g, is', number') =
    is ∙ ap ByMonitor (same_fault f g (number ∙ sym number')) ∙ sym is'
same_halt fs (declined p w) c d h k = h.1 ∙ sym k.1

halts_or_passes : (fs : List Finding) (a : Answer) (c : Cause) → Halts fs a c → Passes fs a → ⊥
halts_or_passes fs (accepted s) c h p = h
halts_or_passes fs (refused n) c h p = p
halts_or_passes fs (declined q w) c h p = let few = h.0 in omega arith

same_end : (r : Result (Option Event) Refusal) (at : Site) (rec : List Event) (fs : List Finding) (x y : Option Fault) → StopsAs r at rec fs x → StopsAs r at rec fs y → x ≡ y
same_end (Ok None) at rec fs x y h k = h ∙ sym k
same_end (Err f) at rec fs x y h k = h ∙ sym k
same_end (Ok (Some e)) at rec fs x y (c, halts, h) (d, halts', k) =
    h ∙ ap (λ z. Some (record { cause = z; at = at })) (same_halt fs (judge rec e) c d halts halts') ∙ sym k

not_both : (bytes : List ℕ) (p : Place) (rec : List Event) (fs : List Finding) (e : Event) (end : Option Fault) → StopsAs (next bytes p) (site bytes (inside bytes p)) rec fs end → next bytes p ≡ Ok (Some e) → Passes fs (judge rec e) → ⊥
not_both bytes p rec fs e end stops reads passes =
    let halts = subst (λ r. StopsAs r (site bytes (inside bytes p)) rec fs end) reads stops in
    halts_or_passes fs (judge rec e) halts.0 halts.1 passes

same_outcome : (o o' : Outcome) → o.recorded_as ≡ o'.recorded_as → o.findings ≡ o'.findings → o.end ≡ o'.end → o.place ≡ o'.place → o ≡ o'
same_outcome o o' a b c d =
    ap (λ x. record { recorded_as = x; findings = o.findings; end = o.end; place = o.place }) a
    ∙ ap (λ x. record { recorded_as = o'.recorded_as; findings = x; end = o.end; place = o.place }) b
    ∙ ap (λ x. record { recorded_as = o'.recorded_as; findings = o'.findings; end = x; place = o.place }) c
    ∙ ap (λ x. record { recorded_as = o'.recorded_as; findings = o'.findings; end = o'.end; place = x }) d

pub one_outcome : (bytes : List ℕ) (p : Place) (rec : List Event) (fs : List Finding) (es es' : List Event) (o o' : Outcome) → Runs bytes p rec fs es o → Runs bytes p rec fs es' o' → o ≡ o'
unfolding Runs
one_outcome bytes p rec fs [] [] o o' s t =
    same_outcome o o' (s.record_stays ∙ sym t.record_stays) (s.findings_stay ∙ sym t.findings_stay) (same_end (next bytes p) (site bytes (inside bytes p)) rec fs o.end o'.end s.ends t.ends) (s.place_stays ∙ sym t.place_stays)
one_outcome bytes p rec fs [] (e ∷ es') o o' s (reads, passes, runs) = absurd (not_both bytes p rec fs e o.end s.ends reads passes)
one_outcome bytes p rec fs (e ∷ es) [] o o' (reads, passes, runs) t = absurd (not_both bytes p rec fs e o'.end t.ends reads passes)
one_outcome bytes p rec fs (e ∷ es) (e' ∷ es') o o' (reads, passes, runs) (reads', passes', runs') =
    let same : e' ≡ e = cc in
    one_outcome bytes (after bytes p) (recorded rec e (judge rec e)) (listed fs (site bytes (inside bytes p)).event (judge rec e)) es es' o o' runs (subst (λ x. Runs bytes (after bytes p) (recorded rec x (judge rec x)) (listed fs (site bytes (inside bytes p)).event (judge rec x)) es' o') same runs')

pub agree : Agree
agree bytes t t' c d =
    c.is ∙ ap (λ o. text (length o.recorded_as) o.findings o.end) (one_outcome bytes outside [] [] c.events d.events c.outcome d.outcome c.runs d.runs) ∙ sym d.is

-- a run makes a certificate
pub certified : (bytes : List ℕ) (events : List Event) (o : Outcome) → Runs bytes outside [] [] events o → Sentence bytes outside [] events o → (t : List ℕ) → t ≡ text (length o.recorded_as) o.findings o.end → Certifies bytes t
certified bytes events o runs says t is = record {
  events = events;
  outcome = o;
  runs = runs;
  says = says;
  is = is;
  tells = tells bytes t events o says is;
  fits = subst (λ x. length x ≤ LONGEST_TEXT) (sym is) (fits bytes events o runs says);
}

-- the text that is made of what a run leaves, over the run's monitor
pub made_over : {K : Type 0} {its : Ghosts K} (bytes : List ℕ) (q : Place) (m : Monitor K its) (fs : List Finding) (end : Option Fault) (n : ℕ) → Certified bytes outside [] q m fs end → ((rec : List Event) → Stands rec m → n ≡ length rec) → (t : List ℕ) → t ≡ text n fs end → MadeOver its bytes t
unfolding certified
made_over bytes q m fs end n run counts t is =
    let o : Outcome = record { recorded_as = run.came.rec'; findings = fs; end = end; place = q } in
    let told : t ≡ text (length o.recorded_as) fs end = is ∙ ap (λ k. text k fs end) (counts run.came.rec' run.came.stands) in
    record {
      certifies = certified bytes run.came.events o run.came.runs run.says t told;
      monitor = m;
      stands = run.came.stands;
    }

-- the same of a string, if there was memory for it
pub made_string : {K : Type 0} {its : Ghosts K} (bytes : List ℕ) (q : Place) (m : Monitor K its) (fs : List Finding) (end : Option Fault) (n : ℕ) → Certified bytes outside [] q m fs end → ((rec : List Event) → Stands rec m → n ≡ length rec) → (r : Result (String Global) AllocError) → IfOk r (λ t. string_bytes t ≡ text n fs end) → IfOk r (λ t. MadeOver its bytes (string_bytes t))
made_string bytes q m fs end n run counts (Ok t) is = made_over bytes q m fs end n run counts (string_bytes t) is
made_string bytes q m fs end n run counts (Err e) is = tt
