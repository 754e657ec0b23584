-- What was read of a file lies within it. Assumes nothing.
use Rattle.std.proofs.Common.{◌≡◌, ℕ, ◌+◌, ◌*◌, ◌≤◌, List, [], ◌∷◌, map, length, get_or, None, Some, Option, inl, inr, sum, sym, ap₂, subst, ap, ◌∙◌, arith}
use Rattle.std.proofs.lemmas.List.{length-append}
use Rattle.events.specs.declared.Event.{Event}
use Rattle.trace.specs.declared.fault.Refusal.{Refusal}
use Rattle.trace.specs.declared.place.Place.{Place}
use Rattle.trace.specs.Codec.{event_bytes}
use Rattle.trace.specs.File.{body}
use Rattle.trace.specs.Layout.{body_end, count, opening, section_at}
use Rattle.trace.specs.Reading.{moved, origin}
use Rattle.trace.specs.Whole.{Reads, tagged}
use Rattle.trace.proofs.Bodies.{body_cons, body_none, length_body_least}
use Rattle.trace.proofs.Entries.{body_end_none}
use Rattle.trace.proofs.Opened.{Opened, opened, within}
use Rattle.trace.proofs.Refusals.{in_body}
use Rattle.trace.proofs.Rewrite.{length_event_again, untagged}
use Rattle.trace.proofs.Steps.{taken_ok}
use Rattle.trace.specs.Fronts.{IsFrontOf}
use Rattle.trace.specs.Reading.{sections_or}
use Rattle.trace.specs.Refusals.{FirstRefusal}
use Rattle.trace.proofs.Refusals.{refusal_opens}
use Rattle.std.specs.Result.{result_unwrap_or}
use Rattle.inspector.specs.Listings.{sections_text}
use Rattle.inspector.specs.Places.{Fits}
use Rattle.inspector.proofs.Lines.{sections_none}

reads_fit : (bs : List ℕ) → Opened bs → (ts : List (ℕ × Event)) (p : Place) (o : Option Refusal) → body_end bs 0 ≤ p.byte → p.byte ≤ length bs → Reads bs p ts o →
    p.byte + length (body (map (λ t. t.1) ts)) ≤ length bs
unfolding Reads
reads_fit bs opens [] p o low fits r = let none = ap length body_none in omega arith
reads_fit bs opens (t ∷ ts) p o low fits r =
    let b = p.byte in
    let k = get_or bs b 0 in
    let start = body_end_none bs in
    let ok = taken_ok bs p t.1 r.2 in
    let end = within opens (section_at bs b) (in_body bs b opens (omega arith) r.0).last in
    let long = ap (λ x. length (event_bytes x)) (sym ok.2) ∙ length_event_again bs b ok.0 in
    let cons = ap length (body_cons t.1 (map (λ t. t.1) ts)) ∙ length-append (event_bytes t.1) (body (map (λ t. t.1) ts)) in
    let rest = reads_fit bs opens ts (moved bs p) o (omega arith) (omega (arith, ok.1)) r.3 in
    omega arith

fits : (bs counts : List ℕ) (events : List Event) (o : Option Refusal) → opening bs ≡ None → sum counts ≡ length events →
    Reads bs (origin bs) (tagged 1 counts events) o → Fits (record { number = 1; byte = 4 + 8 * count bs }) events
fits bs counts events o opens total reads =
    let file = opened bs opens in
    let start = body_end_none bs in
    let same = ap (λ es. length (body es)) (untagged 1 counts events total) in
    let all = reads_fit bs file (tagged 1 counts events) (origin bs) o (omega arith) file.room reads in
    let least = length_body_least events in
    let short = file.short in
    (omega arith, omega arith)

-- what the listing's loop needs of a front, where s is the number of sections that a reader tells
pub record Ready (bs counts : List ℕ) (events : List Event) (s : ℕ) : Type 0 where
  pub total : sum counts ≡ length events
  pub fits : Fits (record { number = 1; byte = 4 + 8 * s }) events
  pub text : sections_text 1 1 (4 + 8 * s) counts events ≡ sections_text 1 1 (4 + 8 * count bs) counts events

opened_ready : (bs counts : List ℕ) (events : List Event) (o : Option Refusal) (s : ℕ) → opening bs ≡ None → sum counts ≡ length events →
    Reads bs (origin bs) (tagged 1 counts events) o → s ≡ result_unwrap_or (sections_or bs (opening bs)) 0 → Ready bs counts events s
opened_ready bs counts events o s opens total reads at =
    let many : s ≡ count bs = at ∙ ap (λ o. result_unwrap_or (sections_or bs o) 0) opens in
    record {
      total = total;
      fits = subst (λ n. Fits (record { number = 1; byte = 4 + 8 * n }) events) (sym many) (fits bs counts events o opens total reads);
      text = ap (λ n. sections_text 1 1 (4 + 8 * n) counts events) many;
    }

shut_ready : (bs counts : List ℕ) (events : List Event) (f : Refusal) (s : ℕ) → FirstRefusal bs f → counts ≡ [] → events ≡ [] →
    s ≡ result_unwrap_or (sections_or bs (opening bs)) 0 → Ready bs counts events s
shut_ready bs counts events f s first no_counts no_events at =
    let none : s ≡ 0 = at ∙ ap (λ o. result_unwrap_or (sections_or bs o) 0) (refusal_opens bs f first) in
    let events_none = ap length no_events in
    let bytes_none = ap (λ es. length (body es)) no_events ∙ ap length body_none in
    let empty : (b : ℕ) → sections_text 1 1 b counts events ≡ [] = λ b. ap₂ (λ cs es. sections_text 1 1 b cs es) no_counts no_events ∙ sections_none 1 1 b [] in
    record {
      total = ap sum no_counts ∙ sym events_none;
      fits = (omega arith, omega arith);
      text = empty (4 + 8 * s) ∙ sym (empty (4 + 8 * count bs));
    }

pub ready : (bs counts : List ℕ) (events : List Event) (end : Option Refusal) (s : ℕ) → IsFrontOf bs counts events end →
    s ≡ result_unwrap_or (sections_or bs (opening bs)) 0 → Ready bs counts events s
ready bs counts events None s front at = opened_ready bs counts events None s front.opens front.total front.reads at
ready bs counts events (Some f) s (inl shut) at = shut_ready bs counts events f s shut.0 shut.1 shut.2 at
ready bs counts events (Some f) s (inr stops) at = opened_ready bs counts events (Some f) s stops.opens stops.total stops.reads at
