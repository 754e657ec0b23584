use Rattle.std.proofs.Common.{◌≡◌, ◌+◌, sym, ap, ◌∙◌, arith}
use Rattle.monitor.specs.Slips.{with_read, with_write}
use Rattle.weighings.specs.Steps.{slip_with}
use Rattle.weighings.proofs.Sets.{below, place_more, place_missing}
use Rattle.weighings.proofs.calls.slip_of.Goals as goal
use Rattle.weighings.proofs.calls.slip_of.Goals.{then-contains, else-contains, then-contains-2, else-contains-2}

pub loop-place-preserved : goal.loop-place-preserved
loop-place-preserved c =
    let p = c.loop-place.place in
    let t = c.args.thread in
    let r = c.args.reads in
    let w = c.args.writes in
    let sofar : c.loop-place.slip ≡ slip_with t (below r p) (below w p) = c.loop-place.invariant in
    let read : c.if-contains.slip ≡ slip_with t (below r (p + 1)) (below w p) =
    elim c.if-contains.branch [
      | then-contains x ↦ x.slip-is ∙ x.add_read.ensures.slip ∙ ap (λ s. with_read s p) sofar ∙ ap (λ s. slip_with t s (below w p)) (place_more r p (omega arith) (sym c.contains.ensures ∙ x.if-contains.true))
      | else-contains x ↦ x.slip-is ∙ sofar ∙ ap (λ s. slip_with t s (below w p)) (place_missing r p (omega arith) (sym c.contains.ensures ∙ x.if-contains.false))
    ] in
    elim c.if-contains-2.branch [
      | then-contains-2 x ↦ x.slip-is ∙ x.add_write.ensures.slip ∙ ap (λ s. with_write s p) read ∙ ap (slip_with t (below r (p + 1))) (place_more w p (omega arith) (sym c.contains-in-loop-place.ensures ∙ x.if-contains-2.true))
      | else-contains-2 x ↦ x.slip-is ∙ read ∙ ap (slip_with t (below r (p + 1))) (place_missing w p (omega arith) (sym c.contains-in-loop-place.ensures ∙ x.if-contains-2.false))
    ]
