use Rattle.std.proofs.Common.{◌/◌, ◌^◌, ap, ◌∙◌, arith}
use Rattle.events.proofs.Zeros.{none_from, lowest_from}
use Rattle.events.proofs.places.PlaceSet.next.Goals as goal

pub returns-then-rest-eq0 : goal.returns-then-rest-eq0
returns-then-rest-eq0 c = none_from c.args.self.word c.args.from c.in_ok-rest.rest (c.in_ok-rest.ensures.1 ∙ ap (λ n. c.args.self.word / 2 ^ n) c.from.ensures) c.if-rest-eq0.true

pub returns : goal.returns
returns c = lowest_from c.args.self.word c.args.from c.in_ok-rest.rest (c.in_ok-rest.ensures.1 ∙ ap (λ n. c.args.self.word / 2 ^ n) c.from.ensures) (omega arith) c.if-rest-eq0.false
