use Rattle.std.proofs.Common.{Ok, Err, sym, ap, ◌∙◌}
use Rattle.std.proofs.lemmas.Result.{err_from_is_err_and}
use Rattle.trace.proofs.Answered.{next_rule}
use Rattle.trace.proofs.HandedOn.{next_place, next_err, next_ok}
use Rattle.trace.proofs.reader.Reader.next.Goals as goal

pub returns-in_err-hand : goal.returns-in_err-hand
returns-in_err-hand c =
    let p = err_from_is_err_and c.from_residual.result c.from_residual.ensures.1 in
    let self = c.args.self.now in
    let handed = c.in_err-hand.ensures.handed in
    let answer = p.1 ∙ ap Err p.2 ∙ sym (next_err self.bytes.now self.at c.hand.new.self.at c.hand.new.taker _ handed) in
    let place = next_place self.bytes.now self.at c.hand.new.self.at c.hand.new.taker _ handed in
    record {
      answer = answer;
      rule = next_rule self.bytes.now self.at c.hand.new.self.at c.from_residual.result self.between answer place;
      place = place;
      bytes = c.hand.ensures.bytes;
    }

pub returns-clause-rule : goal.returns-clause-rule
returns-clause-rule c =
    let self = c.args.self.now in
    let q = c.hand.new.self.at in
    let t = c.hand.new.taker in
    let handed = c.in_ok-hand.ensures.handed in
    next_rule self.bytes.now self.at q (Ok t) self.between (sym (next_ok self.bytes.now self.at q t _ handed)) (next_place self.bytes.now self.at q t _ handed)
