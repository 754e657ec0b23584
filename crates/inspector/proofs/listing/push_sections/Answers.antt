use Rattle.std.proofs.Common.{◌≡◌, ◌+◌, ◌++◌, length, drop, take, get_or, sym, subst, ap, ap₂, ◌∙◌, arith, string_bytes}
use Rattle.std.proofs.lemmas.List.Sums.{sum_by-drop_more}
use Rattle.std.proofs.lemmas.List.{length-append, length-drop, take-append-drop}
use Rattle.trace.specs.File.{body}
use Rattle.trace.proofs.Bodies.{body_split, length_body_take}
use Rattle.inspector.specs.declared.listing.Spot.{Spot}
use Rattle.inspector.specs.Listings.{event_lines, heading, sections_text}
use Rattle.inspector.specs.Places.{Fits, behind}
use Rattle.inspector.proofs.Lines.{all_sections, next_section}
use Rattle.inspector.proofs.listing.push_sections.Goals as goal

pub push_events-requires : goal.push_events-requires
push_events-requires c =
    let k = get_or c.args.counts.now c.loop-index.index 0 in
    let left = c.loop-index.left.now in
    let front : c.split_at.result.0.now ≡ take k left = c.split_at.ensures.front in
    let few = ap length (take-append-drop k left) in
    let cut = length-append (take k left) (drop k left) in
    let less = length_body_take left k in
    subst (Fits c.loop-index.at) (sym front) (omega (arith, c.loop-index.invariant.number, c.requires.fits.0), omega (arith, c.loop-index.invariant.byte, c.requires.fits.1))

pub loop-index-preserved : goal.loop-index-preserved
loop-index-preserved c =
    let counts = c.args.counts.now in
    let left = c.loop-index.left.now in
    let i = c.loop-index.index in
    let n = c.loop-index.at.number in
    let b = c.loop-index.at.byte in
    let k = get_or counts i 0 in
    let h = c.loop-index-test.true in
    let front : c.split_at.result.0.now ≡ take k left = c.split_at.ensures.front in
    let back : c.split_at.result.1.now ≡ drop k left = c.split_at.ensures.back in
    let headed : string_bytes c.writeln.new.self ≡ string_bytes c.loop-index.text ++ heading (i + 1) = c.in_ok-writeln.ensures.bytes in
    let listed = c.in_ok-push_events.ensures.text ∙ ap₂ (λ t es. t ++ event_lines n b es) headed front in
    let at : c.push_events.new.at ≡ behind c.loop-index.at (take k left) = c.in_ok-push_events.ensures.at ∙ ap (behind c.loop-index.at) front in
    let number = ap (λ (s : Spot). s.number) at in
    let byte = ap (λ (s : Spot). s.byte) at in
    let sums = sum_by-drop_more (λ x. x) counts i 0 h in
    let cut = ap length (take-append-drop k left) in
    let both = length-append (take k left) (drop k left) in
    let after = length-drop k left in
    let rest = ap length back in
    let bodies = ap length (body_split left k) ∙ length-append (body (take k left)) (body (drop k left)) in
    let rest_bodies = ap (λ l. length (body l)) back in
    record {
      text = ap₂ (λ t (s : Spot). t ++ sections_text (i + 1 + 1) s.number s.byte (drop (i + 1) counts) c.split_at.result.1.now) listed at
          ∙ ap (λ es. ((string_bytes c.loop-index.text ++ heading (i + 1)) ++ event_lines n b (take k left)) ++ sections_text (i + 1 + 1) (n + length (take k left)) (b + length (body (take k left))) (drop (i + 1) counts) es) back
          ∙ sym (next_section (string_bytes c.loop-index.text) (i + 1) n b i counts left h) ∙ c.loop-index.invariant.text;
      counted = omega (arith, c.loop-index.invariant.counted);
      number = omega (arith, c.loop-index.invariant.number);
      byte = omega (arith, c.loop-index.invariant.byte);
    }

pub returns : goal.returns
returns c =
    sym (all_sections (string_bytes c.loop-index.text) (c.loop-index.index + 1) c.loop-index.at.number c.loop-index.at.byte c.loop-index.index c.args.counts.now c.loop-index.left.now c.loop-index-test.false)
    ∙ c.loop-index.invariant.text
