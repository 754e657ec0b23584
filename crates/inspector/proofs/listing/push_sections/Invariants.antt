-- What is written and what is left make the text of all sections.
use Rattle.std.proofs.Common.{◌≡◌, ◌+◌, ◌++◌, drop, length, string_bytes, sum}
use Rattle.trace.specs.File.{body}
use Rattle.inspector.specs.Listings.{sections_text}
use Rattle.inspector.proofs.listing.push_sections.Given as goal

abbrev pub invariant-loop-index : goal.invariant-loop-index
invariant-loop-index l = record {
  text : string_bytes l.text ++ sections_text (l.index + 1) l.at.number l.at.byte (drop l.index l.counts) l.left ≡ string_bytes l.initial.text ++ sections_text 1 1 l.bodies l.counts l.events;
  counted : sum (drop l.index l.counts) ≡ length l.left;
  number : l.at.number + length l.left ≡ 1 + length l.events;
  byte : l.at.byte + length (body l.left) ≡ l.bodies + length (body l.events);
}
