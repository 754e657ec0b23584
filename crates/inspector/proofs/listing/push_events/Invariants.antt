-- What is written and what is left make the lines of all events, and so do the spot and what is left.
use Rattle.std.proofs.Common.{◌≡◌, ◌+◌, ◌++◌, drop, length, string_bytes}
use Rattle.trace.specs.File.{body}
use Rattle.inspector.specs.Listings.{event_lines}
use Rattle.inspector.proofs.listing.push_events.Given as goal

abbrev pub invariant-loop-event : goal.invariant-loop-event
invariant-loop-event l = record {
  text : string_bytes l.text ++ event_lines l.at.number l.at.byte (drop l.event-index l.events) ≡ string_bytes l.initial.text ++ event_lines l.initial.at.number l.initial.at.byte l.events;
  number : l.at.number ≡ l.initial.at.number + l.event-index;
  byte : l.at.byte + length (body (drop l.event-index l.events)) ≡ l.initial.at.byte + length (body l.events);
}
