use Rattle.std.proofs.Common.{refl, ap, ◌∙◌, arith}
use Rattle.std.proofs.Output.{writes_in_calls_nil, has_written_append, has_written_of_eq}
use Rattle.std.proofs.lemmas.List.{take_all}
use Rattle.weighings.specs.Texts.{demo_text}
use Rattle.weighings.proofs.Parts.{rest_more, text_none, text_more}
use Rattle.weighings.proofs.text.DemoTextDisplay.fmt.Goals as goal

pub loop-part-init : goal.loop-part-init
loop-part-init g c = record {
  passed = refl;
  wrote = λ plain. has_written_of_eq _ _ _ _ _ (text_none c.args.self.now.replies.now) (record { wrote = writes_in_calls_nil _ _; plain = plain });
}

pub loop-part-preserved : goal.loop-part-preserved
loop-part-preserved g c =
    let ps = c.args.self.now.parts.now in
    let rs = c.args.self.now.replies.now in
    let n = c.loop-part.part-index in
    let sofar = c.loop-part.invariant in
    record {
      passed = c.after-replies.ensures ∙ rest_more ps n rs c.loop-part.replies.now _ (omega arith) sofar.passed;
      wrote = λ plain. has_written_of_eq _ _ _ _ _ (text_more ps n rs c.loop-part.replies.now _ (omega arith) sofar.passed) (has_written_append _ _ _ _ _ _ (sofar.wrote plain) (c.in_ok-write.ensures.writes (sofar.wrote plain).plain refl));
    }

pub returns-clause-writes : goal.returns-clause-writes
returns-clause-writes g c plain _ =
    let all = take_all c.loop-part.part-index c.args.self.now.parts.now (omega arith) in
    has_written_of_eq _ _ _ _ _ (ap (λ ps. demo_text ps c.args.self.now.replies.now) all) (c.loop-part.invariant.wrote plain)
