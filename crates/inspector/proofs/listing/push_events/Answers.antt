use Rattle.std.proofs.Common.{◌≡◌, ◌+◌, ◌++◌, length, drop, get_or, sym, ap₂, ◌∙◌, arith, rules, string_bytes}
use Rattle.trace.specs.Codec.{event_bytes}
use Rattle.trace.proofs.Bodies.{blank}
use Rattle.inspector.specs.declared.listing.Spot.{Spot}
use Rattle.inspector.specs.Listings.{event_line, event_lines}
use Rattle.inspector.specs.Places.{behind}
use Rattle.inspector.proofs.Lines.{all_events, next_bytes, next_event, no_bytes}
use Rattle.inspector.proofs.listing.push_events.Goals as goal

pub overflow_add-at-in-loop-event : goal.overflow_add-at-in-loop-event
overflow_add-at-in-loop-event c =
    let more = next_bytes c.loop-event.event-index c.args.events.now c.loop-event-test.true in
    let size : c.event_size.result ≡ length (event_bytes (get_or c.args.events.now c.loop-event.event-index blank)) = c.event_size.ensures.value in
    let byte = c.loop-event.invariant.byte in
    let fits = c.requires.1 in
    search rules

pub loop-event-preserved : goal.loop-event-preserved
loop-event-preserved c =
    let es = c.args.events.now in
    let i = c.loop-event.event-index in
    let n = c.loop-event.at.number in
    let b = c.loop-event.at.byte in
    let e = get_or es i blank in
    let h = c.loop-event-test.true in
    let more = next_bytes i es h in
    let size : c.event_size.result ≡ length (event_bytes e) = c.event_size.ensures.value in
    let wrote : string_bytes c.writeln.new.self ≡ string_bytes c.loop-event.text ++ event_line n b e = c.in_ok-writeln.ensures.bytes in
    record {
      text = ap₂ (λ t s. t ++ event_lines (n + 1) (b + s) (drop (i + 1) es)) wrote size ∙ sym (next_event (string_bytes c.loop-event.text) n b i es h) ∙ c.loop-event.invariant.text;
      number = omega (arith, c.loop-event.invariant.number);
      byte = omega (arith, c.loop-event.invariant.byte);
    }

pub returns-clause-text : goal.returns-clause-text
returns-clause-text c =
    sym (all_events (string_bytes c.loop-event.text) c.loop-event.at.number c.loop-event.at.byte c.loop-event.event-index c.args.events.now c.loop-event-test.false)
    ∙ c.loop-event.invariant.text

pub returns-clause-at : goal.returns-clause-at
returns-clause-at c =
    let none = no_bytes c.loop-event.event-index c.args.events.now c.loop-event-test.false in
    let end = c.loop-event.auto.event-index-end in
    let number : c.loop-event.at.number ≡ c.args.at.now.number + length c.args.events.now = omega (arith, c.loop-event.invariant.number, c.loop-event-test.false) in
    let byte : c.loop-event.at.byte ≡ (behind c.args.at.now c.args.events.now).byte = omega (arith, c.loop-event.invariant.byte) in
    ap₂ (λ m b. let s : Spot = record { number = m; byte = b } in s) number byte
