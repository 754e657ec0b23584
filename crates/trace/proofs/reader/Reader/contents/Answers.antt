use Rattle.std.proofs.Common.{◌≡◌, is_some, None, arith, sym, ap, subst}
use Rattle.std.proofs.lemmas.Result.{err_from_is_err_and}
use Rattle.trace.specs.Layout.{opening}
use Rattle.trace.specs.Reading.{IsBetweenEvents}
use Rattle.trace.proofs.Opened.{between_first, none_from}
use Rattle.trace.proofs.Refusals.{first_refusal, opens}
use Rattle.trace.proofs.reader.Reader.contents.Goals as goal
use Rattle.trace.proofs.reader.Reader.contents.Goals.{then-self-eq0+in_ok-self, else-self-eq0}

pub invariant_of-self : goal.invariant_of-self
invariant_of-self c =
    let first = c.in_ok-self.ensures in
    let bs = c.args.self.now.bytes.now in
    record { opened = λ _. ap is_some first.0; between = λ _. subst (IsBetweenEvents bs) (sym first.1) (between_first bs first.0) }

pub returns-in_err-self-clause-rule : goal.returns-in_err-self-clause-rule
returns-in_err-self-clause-rule c =
    let p = err_from_is_err_and c.from_residual.result c.from_residual.ensures.1 in
    let refused = first_refusal c.args.self.now.bytes.now _ c.in_err-self.ensures in
    rw (p.1, p.2) refused

pub returns-clause-rule : goal.returns-clause-rule
returns-clause-rule c =
    let self = c.args.self.now in
    let none : opening self.bytes.now ≡ None =
    elim c.if-self-eq0.branch [
      | then-self-eq0+in_ok-self w ↦ w.in_ok-self.ensures.0
      | else-self-eq0 w ↦ none_from (opening self.bytes.now) (self.opened (omega arith))
    ] in
    opens self.bytes.now none
