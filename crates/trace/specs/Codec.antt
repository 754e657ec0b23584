-- One event as bytes: kind, thread, operands. Assumes nothing.
--   operands a          the bytes of its operands: one byte, or two sets of 64 bits
--   event_bytes e       the event as it stands in a file
--   size k              how many bytes an event of kind k takes
--   decoded bytes b     the event whose first byte is at b
--   event_at bytes b end   the same, or its fault, in a body that ends at `end`
--   Words a             the sets of a commit are 64-bit words
use Rattle.std.specs.Prelude.{ℕ, ◌+◌, ◌-◌, ◌^◌, ◌<◌, cond, List, [], ◌∷◌, ◌++◌, Ok, Err, Result, ◌==◌, nat_le, nat_lt, slice_index}
use Rattle.events.specs.declared.Event.{Event}
use Rattle.events.specs.declared.Action.{Action}
use Rattle.events.specs.declared.Action.TheVariants.{Read, Write, Acquire, Release, ReadFlag, WriteFlag, Fork, Join, Allocate, Commit}
use Rattle.events.specs.declared.places.PlaceSet.{PlaceSet}
use Rattle.events.specs.Kinds.{kind}
use Rattle.trace.specs.declared.fault.TraceFault.{TraceFault}
use Rattle.trace.specs.declared.fault.TraceFault.TheVariants.{Kind, Overrun}
use Rattle.trace.specs.Words.{bytes_of, word}

abbrev pub operands : Action → List ℕ
operands (Read p) = p ∷ []
operands (Write p) = p ∷ []
operands (Acquire l) = l ∷ []
operands (Release l) = l ∷ []
operands (ReadFlag f) = f ∷ []
operands (WriteFlag f) = f ∷ []
operands (Fork t) = t ∷ []
operands (Join t) = t ∷ []
operands (Allocate o) = o ∷ []
operands (Commit r w) = bytes_of 8 r.word ++ bytes_of 8 w.word

abbrev pub event_bytes : Event → List ℕ
event_bytes e = kind e.action ∷ (e.thread ∷ operands e.action)

abbrev pub size : ℕ → ℕ
size k = cond (k == 9) 18 3

-- the action of kind k below 9 with the operand x
abbrev pub simple : ℕ → ℕ → Action
simple k x =
    cond (k == 0) (Read x) (cond (k == 1) (Write x) (cond (k == 2) (Acquire x) (cond (k == 3) (Release x) (cond (k == 4) (ReadFlag x) (cond (k == 5) (WriteFlag x) (cond (k == 6) (Fork x) (cond (k == 7) (Join x) (Allocate x))))))))

-- the set in the eight bytes from i on
abbrev pub place_set_at : List ℕ → ℕ → PlaceSet
place_set_at bytes i = record { word = word 8 bytes i }

-- the action of kind k whose operands begin at i
abbrev pub action_at : List ℕ → ℕ → ℕ → Action
action_at bytes k i = cond (k == 9) (Commit (place_set_at bytes i) (place_set_at bytes (i + 8))) (simple k (slice_index bytes i))

abbrev pub decoded : List ℕ → ℕ → Event
decoded bytes b = record { thread = slice_index bytes (b + 1); action = action_at bytes (slice_index bytes b) (b + 2) }

abbrev pub event_at : List ℕ → ℕ → ℕ → Result Event TraceFault
event_at bytes b end =
    cond (nat_le 10 (slice_index bytes b)) (Err Kind) (cond (nat_lt (end - b) (size (slice_index bytes b))) (Err Overrun) (Ok (decoded bytes b)))

-- the sets of a commit are 64-bit words, as those of every event that a program holds
abbrev pub Words : Action → Type 0
Words (Read p) = Unit {0}
Words (Write p) = Unit {0}
Words (Acquire l) = Unit {0}
Words (Release l) = Unit {0}
Words (ReadFlag f) = Unit {0}
Words (WriteFlag f) = Unit {0}
Words (Fork t) = Unit {0}
Words (Join t) = Unit {0}
Words (Allocate o) = Unit {0}
Words (Commit r w) = (r.word < 2 ^ 64) × (w.word < 2 ^ 64)
