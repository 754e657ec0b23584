use Rattle.std.proofs.Common.{ℕ, sym, refl, ap, ◌∙◌, rules}
use Rattle.std.proofs.lemmas.Iterator.Consumers.{YieldsList-from_first}
use Rattle.events.specs.Places.{member, those_below, places_left}
use Rattle.order.specs.Cells.{cell_witness}
use Rattle.order.specs.Judgement.{found}
use Rattle.slots.specs.Searched.{serials_of, sets_of}
use Rattle.slots.specs.Told.{found_as}
use Rattle.slots.proofs.Finding.{found_first}
use Rattle.slots.proofs.Found.{race_among}
use Rattle.slots.proofs.race.Search.lowest_race.Goals as goal

pub returns : goal.returns
returns g c others =
    let s = c.args.self.now in
    let at = λ (p : ℕ). found p (cell_witness s.event p (serials_of s p) (sets_of s p)) in
    let places = those_below 64 (member c.args.places.word) in
    let left = ap (λ set. those_below 64 (member set.word)) c.iter.ensures in
    found_first _ _ found_as at refl (λ y. (_, refl)) c.find_map.result c.find_map.ensures.runs (YieldsList-from_first (λ x. x) places_left places left) (λ a r q call. search rules) (λ x o call. search rules)
    ∙ sym (race_among s.event (serials_of s) (sets_of s) (member c.args.places.word) others)
