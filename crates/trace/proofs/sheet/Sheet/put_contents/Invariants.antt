use Rattle.trace.proofs.Writing.{Entries}
use Rattle.trace.proofs.sheet.Sheet.put_contents.Given as goal

abbrev pub invariant-loop-count : goal.invariant-loop-count
invariant-loop-count l = Entries l.initial.self l.counts l.events l.count-index l.offset l.left l.self
