-- What is printed of a refusal. Assumes nothing.
--   fault_words f      what the fault f means
use Rattle.std.specs.Prelude.{ℕ, List, codes}
use Rattle.roster.specs.declared.fault.RuleFault.{RuleFault}
use Rattle.roster.specs.declared.fault.RuleFault.TheVariants.{NoSuchThread, NoSuchThing, NotRunning, ForkedBefore, JoinsAmiss, LockHeld, LockNotHeld, JoinedHolds, RecordFull}

abbrev pub fault_words : RuleFault → List ℕ
fault_words NoSuchThread = codes "there is no such thread"
fault_words NoSuchThing = codes "there is no such place, lock, flag or object"
fault_words NotRunning = codes "the thread is not running"
fault_words ForkedBefore = codes "the thread was forked before"
fault_words JoinsAmiss = codes "a thread joins itself or one that was not forked"
fault_words LockHeld = codes "the lock is held"
fault_words LockNotHeld = codes "the thread does not hold the lock"
fault_words JoinedHolds = codes "the joined thread holds a lock"
fault_words RecordFull = codes "the record is full"
