-- What an event does. Assumes nothing.
--   operand        the number that goes with the kind (events/specs/Kinds); a commit has none
--   read_set, write_set   a commit's two sets of places, as words
--   writes_place   writes it, or commits with it in the write set
--   reads_place    reads it, or commits with it in the read set and not in the write set
--   touches        either of these
--   commits        commits with the place in either set
--   sees           reads it, or commits with it in the read set, whatever it then writes
use Rattle.std.specs.Prelude.{ℕ, ◌/◌, Bool, not, ◌&&◌, ◌||◌, ◌==◌}
use Rattle.events.specs.declared.Event.{Event}
use Rattle.events.specs.declared.Action.{Action}
use Rattle.events.specs.declared.Action.TheVariants.{Read, Write, Acquire, Release, ReadFlag, WriteFlag, Fork, Join, Allocate, Commit}
use Rattle.events.specs.Kinds.{kind}
use Rattle.events.specs.Places.{member}

abbrev pub operand : Action → ℕ
operand (Read p) = p
operand (Write p) = p
operand (Acquire l) = l
operand (Release l) = l
operand (ReadFlag f) = f
operand (WriteFlag f) = f
operand (Fork u) = u
operand (Join u) = u
operand (Allocate o) = o
operand (Commit r w) = 0

abbrev pub read_set : Action → ℕ
read_set (Read p) = 0
read_set (Write p) = 0
read_set (Acquire l) = 0
read_set (Release l) = 0
read_set (ReadFlag f) = 0
read_set (WriteFlag f) = 0
read_set (Fork u) = 0
read_set (Join u) = 0
read_set (Allocate o) = 0
read_set (Commit r w) = r.word

abbrev pub write_set : Action → ℕ
write_set (Read p) = 0
write_set (Write p) = 0
write_set (Acquire l) = 0
write_set (Release l) = 0
write_set (ReadFlag f) = 0
write_set (WriteFlag f) = 0
write_set (Fork u) = 0
write_set (Join u) = 0
write_set (Allocate o) = 0
write_set (Commit r w) = w.word

-- the event in which thread t does a
abbrev pub by : ℕ → Action → Event
by t a = record { thread = t; action = a }

-- the event is of that kind
abbrev pub is : ℕ → Event → Bool
is n e = kind e.action == n

-- the event is of that kind and has that operand
unfoldable pub does : ℕ → Event → ℕ → Bool
does n e x = is n e && operand e.action == x

abbrev pub acquires : Event → ℕ → Bool
acquires = does 2

abbrev pub releases : Event → ℕ → Bool
releases = does 3

abbrev pub reads_flag : Event → ℕ → Bool
reads_flag = does 4

abbrev pub writes_flag : Event → ℕ → Bool
writes_flag = does 5

abbrev pub forks : Event → ℕ → Bool
forks = does 6

abbrev pub joins : Event → ℕ → Bool
joins = does 7

-- the event begins a new life of the place: it allocates its object
unfoldable pub allocates : Event → ℕ → Bool
allocates e p = does 8 e (p / 4)

unfoldable pub writes_place : Event → ℕ → Bool
writes_place e p = does 1 e p || is 9 e && member (write_set e.action) p

unfoldable pub reads_place : Event → ℕ → Bool
reads_place e p = does 0 e p || is 9 e && (member (read_set e.action) p && not (member (write_set e.action) p))

unfoldable pub touches : Event → ℕ → Bool
touches e p = writes_place e p || reads_place e p

unfoldable pub commits : Event → ℕ → Bool
commits e p = is 9 e && (member (read_set e.action) p || member (write_set e.action) p)

unfoldable pub sees : Event → ℕ → Bool
sees e p = does 0 e p || is 9 e && member (read_set e.action) p
