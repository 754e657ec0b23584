-- Slips: what opening and adding make of them, and the event that committing one offers. Assumes nothing.
use Rattle.std.specs.Prelude.{ℕ, cond, Ok, Err, Result, nat_lt}
use Rattle.events.specs.declared.Event.{Event}
use Rattle.events.specs.declared.Action.TheVariants.{Commit}
use Rattle.events.specs.Places.{with_place}
use Rattle.roster.specs.declared.fault.RuleFault.{RuleFault}
use Rattle.roster.specs.declared.fault.RuleFault.TheVariants.{NoSuchThing}
use Rattle.monitor.specs.declared.slip.Slip.{Slip}

abbrev pub opened : ℕ → Slip
opened t = record { thread = t; reads = record { word = 0 }; writes = record { word = 0 } }

abbrev pub with_read : Slip → ℕ → Slip
with_read s p = record { thread = s.thread; reads = with_place s.reads p; writes = s.writes }

abbrev pub with_write : Slip → ℕ → Slip
with_write s p = record { thread = s.thread; reads = s.reads; writes = with_place s.writes p }

abbrev pub add_answer : ℕ → Result (Unit {0}) RuleFault
add_answer p = cond (nat_lt p 64) (Ok tt) (Err NoSuchThing)

abbrev pub commit_of : Slip → Event
commit_of s = record { thread = s.thread; action = Commit s.reads s.writes }
