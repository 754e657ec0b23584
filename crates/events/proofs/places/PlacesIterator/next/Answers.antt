use Rattle.std.proofs.Common.{ap, ◌∙◌, arith, rules}
use Rattle.events.specs.Places.{those_below, member}
use Rattle.events.proofs.Zeros.{none_left, lowest_left}
use Rattle.events.proofs.places.PlacesIterator.next.Goals as goal

pub returns-then-word-eq0-clause-steps : goal.returns-then-word-eq0-clause-steps
returns-then-word-eq0-clause-steps c = let e = ap (λ w. those_below 64 (member w)) c.if-word-eq0.true ∙ none_left 64 in (e, e)

pub returns-clause-steps : goal.returns-clause-steps
returns-clause-steps c = lowest_left c.args.self.now.set.word (omega arith) (omega arith)

pub returns-clause-goes : goal.returns-clause-goes
returns-clause-goes c = let e = lowest_left c.args.self.now.set.word (omega arith) (omega arith) in search rules
