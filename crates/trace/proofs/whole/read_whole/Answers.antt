use Rattle.std.proofs.Common.{◌<◌, vec_items, subst, arith}
use Rattle.std.proofs.ByRecursion.{All-from_get_or}
use Rattle.trace.specs.Whole.{IsTraceOf}
use Rattle.trace.specs.Fronts.{IsFrontOf}
use Rattle.trace.proofs.Fronts.{front_refuses}
use Rattle.trace.proofs.Rewrite.{rewritten}
use Rattle.trace.proofs.whole.read_whole.Goals as goal

pub returns-in-None : goal.returns-in-None
returns-in-None c =
    let bs = c.args.bytes.now in
    let front = c.in_ok-front.front in
    let counts = vec_items front.trace.counts in
    let events = vec_items front.trace.events in
    let read : IsTraceOf bs counts events = subst (IsFrontOf bs counts events) c.in-None.is c.in_ok-front.ensures in
    (read, rewritten bs counts events (All-from_get_or (λ b. b < 256) bs 0 (λ i _. omega (arith, c.type_inv.bytes i))) read)

pub returns-in-Some : goal.returns-in-Some
returns-in-Some c =
    let bs = c.args.bytes.now in
    let front = c.in_ok-front.front in
    let counts = vec_items front.trace.counts in
    let events = vec_items front.trace.events in
    front_refuses bs counts events c.in-Some.refusal (subst (IsFrontOf bs counts events) c.in-Some.is c.in_ok-front.ensures)
