use Rattle.std.proofs.Common.{◌+◌, map, ap, ◌∙◌}
use Rattle.events.specs.Places.{member, those_below}
use Rattle.slots.proofs.Places.{union_holders}
use Rattle.slots.proofs.holders.Holders.of_places.Goals as goal

pub returns : goal.returns
returns c =
    ap (λ s. map (λ p. 72 + p) (those_below 64 (member s.word))) c.iter.ensures
    ∙ ap (λ w. map (λ p. 72 + p) (those_below 64 (member w))) c.union.ensures
    ∙ union_holders c.args.reads.word c.args.writes.word
