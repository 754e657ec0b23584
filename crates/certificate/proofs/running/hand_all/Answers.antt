use Rattle.std.proofs.Common.{◌<◌, length, Some, None, Err, refl, ap, ◌∙◌, arith}
use Rattle.std.proofs.lemmas.Result.{err_from_is_err_and}
use Rattle.std.specs.Result.{result_err}
use Rattle.certificate.specs.Running.{RunOn}
use Rattle.certificate.proofs.Ahead.{ahead}
use Rattle.certificate.proofs.Onward.{went, none_left, failed, sofar_none, sofar_more, sofar_stops}
use Rattle.certificate.proofs.running.hand_all.Goals as goal

pub loop-init : goal.loop-init
loop-init g c = (refl, λ rec stands. sofar_none _ _ rec _ stands)

pub returns-in_err-hand : goal.returns-in_err-hand
unfolding RunOn
returns-in_err-hand g c =
    let inv = c.loop.invariant in
    let t = c.hand.new.taker in
    let q' = c.hand.new.self.at in
    let y = c.in_err-hand.field-0.0 in
    let p = err_from_is_err_and c.from_residual.result c.from_residual.ensures.1 in
    let told = ap result_err (p.1 ∙ ap Err p.2) in
    let handed = rw (inv.0, c.in_err-hand.was) at c.hand.ensures.handed in
    record {
      run = λ rec stands.
          let sofar = inv.1 rec stands in
          rw told (sofar_stops sofar t q' (Some y) (failed _ _ _ _ t q' sofar.rec' sofar.stands y _ handed));
      bytes = c.hand.ensures.bytes ∙ inv.0;
    }

pub loop-smaller : goal.loop-smaller
loop-smaller g c =
    let inv = c.loop.invariant in
    let q' = c.hand.new.self.at in
    let bs = c.args.reader.now.bytes.now in
    let handed = rw (inv.0, c.in_ok-hand.was, c.if-branch.true) at c.hand.ensures.handed in
    let step = went _ _ _ _ c.hand.new.taker q' _ handed in
    let on = ahead bs c.loop.reader.at step.0 step.1 in
    let byte = ap (λ p. p.byte) step.3 in
    let same = ap length (c.hand.ensures.bytes ∙ inv.0) in
    let some : 0 < q'.byte = omega arith in
    let within = (c.hand.new.self.between some).2 in
    omega arith

pub loop-preserved : goal.loop-preserved
loop-preserved g c =
    let inv = c.loop.invariant in
    let q' = c.hand.new.self.at in
    let t = c.hand.new.taker in
    let handed = rw (inv.0, c.in_ok-hand.was, c.if-branch.true) at c.hand.ensures.handed in
    let step = went _ _ _ _ t q' _ handed in
    (c.hand.ensures.bytes ∙ inv.0, λ rec stands. sofar_more (inv.1 rec stands) t q' step.0 step.1 step.2 step.3)

pub returns : goal.returns
unfolding RunOn
returns g c =
    let inv = c.loop.invariant in
    let q' = c.hand.new.self.at in
    let t = c.hand.new.taker in
    let handed = rw (inv.0, c.in_ok-hand.was, c.if-branch.false) at c.hand.ensures.handed in
    record {
      run = λ rec stands.
          let sofar = inv.1 rec stands in
          sofar_stops sofar t q' None (none_left _ _ _ _ t q' sofar.rec' sofar.stands _ handed);
      bytes = c.hand.ensures.bytes ∙ inv.0;
    }
