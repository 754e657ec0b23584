use Rattle.std.proofs.Common.{rules, ◌∷◌, ◌++◌, [], length, take, flat_map, refl, sym, ap, ◌∙◌}
use Rattle.std.proofs.Output.{has_written_append, has_written_of_eq}
use Rattle.std.proofs.lemmas.List.{length-append}
use Rattle.std.proofs.lemmas.Slice.Zip.{zip_turn, zip_end}
use Rattle.std.specs.List.{zip}
use Rattle.weighings.specs.Texts.{line_text, part_text}
use Rattle.weighings.proofs.Parts.{lines_more, lines_all}
use Rattle.weighings.proofs.text.PartTextDisplay.fmt.Goals as goal

pub loop-step-preserved : goal.loop-step-preserved
loop-step-preserved g c plain =
    let ss = c.args.self.now.part.now.steps.now in
    let rs = c.args.self.now.replies.now in
    let turn = zip_turn ss rs c.loop-step.yielded c.into_iter-step-iterator.result c.loop-step.step-iterator c.next.new.self c.next.result (cc) (cc) c.loop-step.yielded_by (c.in-Some.step, c.in-Some.reply) c.in-Some.is c.next.ensures.steps in
    let more = lines_more ss rs (length c.loop-step.yielded) c.in-Some.step.now c.in-Some.reply.now turn.0 turn.1 (turn.2 c.in-Some.step.now) (turn.3 c.in-Some.reply.now) in
    let long = length-append c.loop-step.yielded ((c.in-Some.step, c.in-Some.reply) ∷ []) in
    has_written_of_eq _ _ _ _ _ (more ∙ ap (λ n. flat_map line_text (take n (zip ss rs))) (sym long)) (has_written_append _ _ _ _ _ _ (c.loop-step.invariant plain) (search rules))

pub returns-clause-writes : goal.returns-clause-writes
unfolding part_text
returns-clause-writes g c plain _ =
    let ss = c.args.self.now.part.now.steps.now in
    let rs = c.args.self.now.replies.now in
    let end = zip_end ss rs c.loop-step.yielded c.into_iter-step-iterator.result c.loop-step.step-iterator c.next.new.self c.next.result (cc) (cc) c.loop-step.yielded_by c.in-None.is c.next.ensures.steps in
    let title = c.in_ok-writeln.ensures.writes plain refl in
    has_written_of_eq _ _ _ _ _ (ap (λ t. (c.args.self.now.part.now.title.now ++ (10 ∷ [])) ++ t) (lines_all ss rs (length c.loop-step.yielded) end)) (has_written_append _ _ _ _ _ _ title (c.loop-step.invariant title.plain))
