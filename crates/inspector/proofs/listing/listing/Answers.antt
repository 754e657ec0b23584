use Rattle.std.proofs.Common.{◌≡◌, ◌+◌, ◌*◌, ◌++◌, ◌<◌, List, ℕ, None, Some, IfNone, Option, sym, subst, ap, ap₂, ◌∙◌, arith, sum, length}
use Rattle.std.proofs.ByRecursion.{All-from_get_or}
use Rattle.std.specs.Result.{result_unwrap_or}
use Rattle.events.specs.declared.Event.{Event}
use Rattle.trace.specs.declared.fault.Refusal.{Refusal}
use Rattle.trace.specs.File.{file}
use Rattle.trace.specs.Fronts.{IsFrontOf}
use Rattle.trace.specs.Layout.{opening}
use Rattle.trace.specs.Reading.{sections_or}
use Rattle.trace.specs.Words.{Bytes}
use Rattle.trace.proofs.Rewrite.{rewritten}
use Rattle.inspector.specs.Listings.{ending, sections_text}
use Rattle.inspector.specs.Places.{Fits}
use Rattle.inspector.proofs.Fitting.{ready}
use Rattle.inspector.proofs.listing.listing.Goals as goal

same : (bs counts : List ℕ) (events : List Event) (end : Option Refusal) → Bytes bs → IsFrontOf bs counts events end → IfNone end (file counts events ≡ bs)
same bs counts events None all front = rewritten bs counts events all front
same bs counts events (Some f) all front = tt

pub push_sections-requires-clause-counted : goal.push_sections-requires-clause-counted
push_sections-requires-clause-counted c =
    let front = c.in_ok-front.front in
    let bs = c.args.bytes.now in
    let told = c.unwrap_or-sections.ensures ∙ ap (λ r. result_unwrap_or r 0) c.contents.ensures.answer ∙ ap (λ l. result_unwrap_or (sections_or l (opening l)) 0) c.new.ensures.0 in
    let r = ready bs front.trace.counts.items front.trace.events.items front.end c.unwrap_or-sections.result c.in_ok-front.ensures told in
    ap sum c.as_slice.ensures.value ∙ r.total ∙ sym (ap length c.as_slice-2.ensures.value)

pub push_sections-requires-clause-fits : goal.push_sections-requires-clause-fits
push_sections-requires-clause-fits c =
    let front = c.in_ok-front.front in
    let bs = c.args.bytes.now in
    let told = c.unwrap_or-sections.ensures ∙ ap (λ r. result_unwrap_or r 0) c.contents.ensures.answer ∙ ap (λ l. result_unwrap_or (sections_or l (opening l)) 0) c.new.ensures.0 in
    let r = ready bs front.trace.counts.items front.trace.events.items front.end c.unwrap_or-sections.result c.in_ok-front.ensures told in
    subst (Fits (record { number = 1; byte = 4 + 8 * c.unwrap_or-sections.result })) (sym c.as_slice-2.ensures.value) r.fits

pub returns : goal.returns
returns c =
    let front = c.in_ok-front.front in
    let counts = front.trace.counts.items in
    let events = front.trace.events.items in
    let bs = c.args.bytes.now in
    let told = c.unwrap_or-sections.ensures ∙ ap (λ r. result_unwrap_or r 0) c.contents.ensures.answer ∙ ap (λ l. result_unwrap_or (sections_or l (opening l)) 0) c.new.ensures.0 in
    let r = ready bs counts events front.end c.unwrap_or-sections.result c.in_ok-front.ensures told in
    let lines = ap₂ (λ cs es. sections_text 1 1 (4 + 8 * c.unwrap_or-sections.result) cs es) c.as_slice.ensures.value c.as_slice-2.ensures.value ∙ r.text in
    let text = c.in_ok-push_sections.ensures ∙ ap₂ (λ t u. t ++ u) c.new-text.ensures.bytes lines in
    record {
      counts = counts;
      events = events;
      end = front.end;
      front = c.in_ok-front.ensures;
      same = same bs counts events front.end (All-from_get_or (λ b. b < 256) bs 0 (λ i _. omega (arith, c.type_inv.bytes i))) c.in_ok-front.ensures;
      text = c.in_ok-push_ending.ensures ∙ ap (λ t. t ++ ending bs counts events front.end) text;
    }
