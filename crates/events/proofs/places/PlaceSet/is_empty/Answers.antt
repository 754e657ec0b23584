use Rattle.std.proofs.Common.{◌≡◌, length, sym, ap, ◌∙◌, rules, arith}
use Rattle.std.proofs.lemmas.Nat.{zero_from_ones}
use Rattle.events.specs.Places.{member, those_below}
use Rattle.events.proofs.Counts.{places_ones}
use Rattle.events.proofs.Zeros.{none_left}
use Rattle.events.proofs.places.PlaceSet.is_empty.Goals as goal

pub returns : goal.returns
returns c =
    let w = c.args.self.word in (
      λ none. ap (λ v. those_below 64 (member v)) (search (none, arith)) ∙ none_left 64,
      λ none. let zero : w ≡ 0 = zero_from_ones w (sym (places_ones w (omega arith)) ∙ ap length none) in search rules,
    )
