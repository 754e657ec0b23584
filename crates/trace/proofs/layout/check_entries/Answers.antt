use Rattle.std.proofs.Common.{◌+◌, ◌*◌, Some, sym, ap, ◌∙◌, arith}
use Rattle.std.proofs.lemmas.Bool.{lt-ltb, le-ltb, cond-true, cond-false}
use Rattle.std.proofs.lemmas.Result.{err_from_is_err_and}
use Rattle.trace.specs.Layout.{bad_entry}
use Rattle.trace.proofs.Entries.{body_end_none, body_end_more, bad_entry_more, opens_at_entry, opens_at_end}
use Rattle.trace.proofs.layout.check_entries.Goals as goal

pub loop-i-init : goal.loop-i-init
loop-i-init c =
    (ap (λ n. 4 + 8 * n) c.requires.0 ∙ sym (body_end_none c.args.bytes.now), omega (arith, c.requires.1.contents), ap (λ k. bad_entry c.args.bytes.now k 0) (omega arith))

pub returns-in_err-end : goal.returns-in_err-end
returns-in_err-end c =
    let p = err_from_is_err_and c.from_residual.result c.from_residual.ensures.1 in
    let wrong = c.in_err-end.ensures in
    let refused = opens_at_entry c.args.bytes.now c.args.sections c.requires c.loop-i.i c.loop-i.invariant.2 c.loop-i-test.true wrong.0 ∙ ap Some (sym wrong.1) in
    rw (p.1, p.2) refused

pub loop-i-preserved : goal.loop-i-preserved
loop-i-preserved c =
    let bs = c.args.bytes.now in
    let next = c.in_ok-end.ensures in
    let more = body_end_more bs c.loop-i.i in
    (omega (arith, next.1), next.2, sym (bad_entry_more bs c.args.sections c.loop-i.i c.loop-i-test.true next.0) ∙ c.loop-i.invariant.2)

pub returns-then-end-bytes : goal.returns-then-end-bytes
returns-then-end-bytes c =
    opens_at_end c.args.bytes.now c.args.sections c.requires c.loop-i.i c.loop-i.invariant.2 c.loop-i.end (omega arith) c.loop-i.invariant.0 ∙ cond-true _ _ _ (lt-ltb _ _ c.if-end-bytes.true) ∙ ap Some (sym c.early.ensures)

pub returns : goal.returns
returns c =
    opens_at_end c.args.bytes.now c.args.sections c.requires c.loop-i.i c.loop-i.invariant.2 c.loop-i.end (omega arith) c.loop-i.invariant.0 ∙ cond-false _ _ _ (le-ltb _ _ c.if-end-bytes.false)
