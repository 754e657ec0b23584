-- The numbers of the refusals, and when each is told. Assumes nothing.
--   fault_number f     the number of a fault
--   numbered r         the number of a refusal, or none
--   refused r n e      the first of 1 to 9 that refuses e, by what the roster r says, after n events
use Rattle.std.specs.Prelude.{ℕ, Some, None, Option, Ok, Err, Result}
use Rattle.events.specs.declared.Event.{Event}
use Rattle.order.specs.Faults.{rule}
use Rattle.roster.specs.declared.fault.RuleFault.{RuleFault}
use Rattle.roster.specs.declared.fault.RuleFault.TheVariants.{NoSuchThread, NoSuchThing, NotRunning, ForkedBefore, JoinsAmiss, LockHeld, LockNotHeld, JoinedHolds, RecordFull}
use Rattle.roster.specs.declared.roster.Roster.{Roster}
use Rattle.roster.specs.States.{begun, over, holders}

abbrev pub fault_number : RuleFault → ℕ
fault_number NoSuchThread = 1
fault_number NoSuchThing = 2
fault_number NotRunning = 3
fault_number ForkedBefore = 4
fault_number JoinsAmiss = 5
fault_number LockHeld = 6
fault_number LockNotHeld = 7
fault_number JoinedHolds = 8
fault_number RecordFull = 9

abbrev pub numbered : Result (Unit {0}) RuleFault → Option ℕ
numbered (Ok _) = None
numbered (Err f) = Some (fault_number f)

abbrev pub refused : Roster → ℕ → Event → Option ℕ
refused r n e = rule (begun r) (over r) (holders r) n e
