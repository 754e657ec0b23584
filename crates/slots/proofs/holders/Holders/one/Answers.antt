use Rattle.std.proofs.Common.{◌+◌, ◌∷◌, map, ap, ◌∙◌}
use Rattle.events.specs.Places.{member, those_below}
use Rattle.events.proofs.Zeros.{none_left}
use Rattle.slots.proofs.holders.Holders.one.Goals as goal

pub returns : goal.returns
returns c = ap (λ ps. c.args.holder ∷ map (λ p. 72 + p) ps) (ap (λ s. those_below 64 (member s.word)) c.iter.ensures ∙ none_left 64)
