use Rattle.monitor.proofs.Telling.{told_by_slots, asked_told, rightly_told}
use Rattle.monitor.proofs.monitor.Monitor.ask.Goals as goal

pub returns-clause-answer : goal.returns-clause-answer
returns-clause-answer g c rec stands =
    let q = c.args.question in
    let slot = c.in_ok-slot.ensures in
    let place = c.if-place-ge64.false in
    let thread = c.if-thread-ge8.false in
    let told = told_by_slots stands q.place q.thread c.in_ok-slot.slot q.access c.tell.result slot.1 place slot.2 thread c.tell.ensures in
    asked_told rec q.place q.thread q.access c.tell.result slot.0 place thread told

pub returns-clause-right : goal.returns-clause-right
returns-clause-right g c rec stands =
    let q = c.args.question in
    let slot = c.in_ok-slot.ensures in
    rightly_told rec q c.tell.result (told_by_slots stands q.place q.thread c.in_ok-slot.slot q.access c.tell.result slot.1 c.if-place-ge64.false slot.2 c.if-thread-ge8.false c.tell.ensures)
