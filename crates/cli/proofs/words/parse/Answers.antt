use Rattle.std.proofs.Common.{◌≡◌, [], ap, subst, ◌∙◌, map, string_bytes}
use Rattle.std.proofs.lemmas.Result.{IfOk-weaker}
use Rattle.clap.specs.Words.{App, HasKind, fault_of, is_simple, is_simple_and_free, matches_of}
use Rattle.cli.proofs.Asking.{asks_reading, asks_saying, is_free, is_plain}
use Rattle.cli.proofs.Plainly.{plainly}
use Rattle.cli.proofs.words.parse.Goals as goal

pub returns-in-Ok : goal.returns-in-Ok
returns-in-Ok c =
    let p = c.args.program.now in
    let ws = map string_bytes c.args.words.now in
    let is = c.in_ok-command.ensures in
    let clean = c.in-Ok.ensures.kinds (ap is_simple_and_free is ∙ is_free p) in
    let rows = (c.in-Ok.ensures.matches (ap is_simple is ∙ is_plain p)).0 in
    let asks = asks_reading p ws c.reading.result _ (subst (λ (a : App). fault_of a ws ≡ []) is clean) (rows ∙ ap (λ (a : App). matches_of a ws) is) c.reading.ensures in
    record { answer = asks; plain = plainly p ws c.reading.result asks }

pub returns-in-Err : goal.returns-in-Err
returns-in-Err c =
    let p = c.args.program.now in
    let ws = map string_bytes c.args.words.now in
    let is = c.in_ok-command.ensures in
    let kinds = subst (λ (a : App). HasKind (fault_of a ws) c.in-Err.error) is (c.in-Err.ensures.kinds (ap is_simple_and_free is ∙ is_free p)) in
    record {
      answer = IfOk-weaker c.saying.result _ _ (λ r tells. asks_saying p ws r c.in-Err.error kinds tells) c.saying.ensures;
      plain = IfOk-weaker c.saying.result _ _ (λ r tells. plainly p ws r (asks_saying p ws r c.in-Err.error kinds tells)) c.saying.ensures;
    }
