use Rattle.std.proofs.Common.{deque_items, arith}
use Rattle.std.proofs.lemmas.List.{nil_from_length}
use Rattle.monitor.proofs.Sessions.{sofar_none, sofar_more, sofar_all, examples_answered}
use Rattle.monitor.proofs.session.answer_all.Goals as goal

pub loop-call-init : goal.loop-call-init
loop-call-init g c =
    let room = c.clear.ensures in
    (sofar_none (deque_items c.args.calls) _ c.start-monitor.result room.items c.start-monitor.ensures.stands, omega (arith, room.len, room.capacity, c.len.ensures), room.capacity)

pub loop-call-preserved : goal.loop-call-preserved
loop-call-preserved g c =
    let popped = c.in-Some.ensures in
    let pushed = c.push_reserved.ensures in
    (sofar_more c.loop-call.invariant.0 c.pop_front.new.self.items c.push_reserved.new.self.items c.answer.new.monitor c.in-Some.call c.answer.result popped.items pushed.items c.answer.ensures, omega (arith, popped.len, pushed.len, pushed.capacity, c.loop-call.invariant.1), omega (arith, pushed.capacity, c.loop-call.invariant.2))

pub returns-clause-examples : goal.returns-clause-examples
returns-clause-examples g c =
    let none = nil_from_length (deque_items c.loop-call.calls) (omega (arith, c.loop-call.calls.ok.0, c.in_default.ensures.cases.0)) in
    examples_answered _ _ (sofar_all c.loop-call.invariant.0 none).0
