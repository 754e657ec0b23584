-- The file that holds events in sections, and what writing it answers. Assumes nothing.
--   body events              the events' bytes, one after another
--   contents at counts events   the entries of sections with so many events each, the first body at `at`
--   file counts events       the whole file
--   lawful counts events     there are few enough sections, and they hold just the events
--   write_answer counts events room   what the writer answers with a buffer of so many bytes
--   laid out at bs           the buffer with the bytes bs from `at` on
use Rattle.std.specs.Prelude.{ℕ, ◌+◌, ◌*◌, Bool, cond, ◌&&◌, List, [], ◌∷◌, ◌++◌, length, take, drop, Ok, Err, sum, Result, ◌==◌, nat_le, nat_lt}
use Rattle.std.specs.List.{flat_map}
use Rattle.events.specs.declared.Event.{Event}
use Rattle.trace.specs.declared.fault.WriteFault.{WriteFault}
use Rattle.trace.specs.declared.fault.WriteFault.TheVariants.{Counts, Oversize, NoRoom}
use Rattle.trace.specs.Words.{bytes_of}
use Rattle.trace.specs.Codec.{event_bytes}

unfoldable pub body : List Event → List ℕ
body events = flat_map event_bytes events

unfoldable pub contents : ℕ → List ℕ → List Event → List ℕ
contents at [] events = []
contents at (c ∷ counts) events =
    bytes_of 4 at ++ (bytes_of 4 (length (body (take c events))) ++ contents (at + length (body (take c events))) counts (drop c events))

unfoldable pub file : List ℕ → List Event → List ℕ
file counts events =
    bytes_of 2 1 ++ (bytes_of 2 (length counts) ++ (contents (4 + 8 * length counts) counts events ++ body events))

abbrev pub lawful : List ℕ → List Event → Bool
lawful counts events = nat_le (length counts) 256 && sum counts == length events

abbrev pub write_answer : List ℕ → List Event → ℕ → Result ℕ WriteFault
write_answer counts events room =
    cond (lawful counts events) (cond (nat_lt 65536 (length (file counts events))) (Err Oversize) (cond (nat_lt room (length (file counts events))) (Err NoRoom) (Ok (length (file counts events))))) (Err Counts)

unfoldable pub laid : List ℕ → ℕ → List ℕ → List ℕ
laid out at bs = take at out ++ (bs ++ drop (at + length bs) out)
