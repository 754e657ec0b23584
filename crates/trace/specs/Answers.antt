-- What each answer of reading on says of the file and of the reader's place. Assumes nothing.
--   TakenEvent bytes p e q   e is the event at which a reader at p stands, in a file that opens, and q is the place behind it
--   Answers bytes p q r      r is the answer of a reader at the place p, and q where it then stands: the event there, that the file is
--                            read to its end, or the refusal by the first rule that applies; only a taken event moves the reader
use Rattle.std.specs.Prelude.{◌≡◌, ℕ, ◌+◌, ◌≤◌, ◌⊎◌, List, length, take, drop, Some, None, Ok, Err, Option, Result}
use Rattle.events.specs.declared.Event.{Event}
use Rattle.trace.specs.declared.fault.Refusal.{Refusal}
use Rattle.trace.specs.declared.place.Place.{Place}
use Rattle.trace.specs.Words.{Bytes}
use Rattle.trace.specs.Codec.{event_bytes}
use Rattle.trace.specs.Layout.{body_end}
use Rattle.trace.specs.Refusals.{FirstRefusal, Opens, InBody, EventRefusal}

-- every element of a slice of bytes is one, so that a caller always has what `stands` asks
pub record TakenEvent (bytes : List ℕ) (p : Place) (e : Event) (q : Place) : Type 0 where
  pub opens : Opens bytes
  pub stands : Bytes bytes → take (length (event_bytes e)) (drop p.byte bytes) ≡ event_bytes e
  pub section : InBody bytes q.section p.byte
  pub fits : q.byte ≤ body_end bytes q.section
  pub event : q.events ≡ p.events + 1
  pub byte : q.byte ≡ p.byte + length (event_bytes e)

abbrev pub Answers : List ℕ → Place → Place → Result (Option Event) Refusal → Type 0
Answers bytes p q (Ok (Some e)) = TakenEvent bytes p e q
Answers bytes p q (Ok None) = Opens bytes × (p.byte ≡ length bytes) × (q ≡ p)
Answers bytes p q (Err f) = (FirstRefusal bytes f ⊎ EventRefusal bytes p f) × (q ≡ p)
