use Rattle.std.proofs.Common.{take}
use Rattle.std.specs.List.{AllByRecursion}
use Rattle.trace.specs.Codec.{Words}
use Rattle.trace.specs.File.{body}
use Rattle.trace.specs.Sheets.{Adds}
use Rattle.trace.proofs.sheet.Sheet.put_events.Given as goal

-- the events so far are put, and their sets are words
abbrev pub invariant-loop-event : goal.invariant-loop-event
invariant-loop-event l = record {
  put : Adds l.initial.self (body (take l.event-index l.events)) l.self;
  words : AllByRecursion (λ e. Words e.action) (take l.event-index l.events);
}
