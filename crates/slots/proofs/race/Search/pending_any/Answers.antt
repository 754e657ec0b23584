use Rattle.std.proofs.Common.{◌≡◌, ℕ, ◌+◌, ◌*◌, refl, ap, ap₂, ◌∙◌, rules, arith}
use Rattle.std.proofs.lemmas.Iterator.{YieldsList-from_range}
use Rattle.order.specs.Cells.{pending, cell_read}
use Rattle.order.specs.Searches.{or_else}
use Rattle.slots.specs.Made.{held}
use Rattle.slots.specs.Serials.{number_at}
use Rattle.slots.proofs.Finding.{found_first}
use Rattle.slots.proofs.Found.{first_along}
use Rattle.slots.proofs.race.Search.pending_any.Goals as goal

pub returns : goal.returns
unfolding cell_read
returns g c =
    let e = c.args.self.now.event in
    let ns = number_at c.args.self.now.slots.now.serials in
    let sets = held (g.K.Keeper.meaning c.args.self.now.slots.now.keeper) in
    let at = λ (slot : ℕ). pending e (ns slot) (sets slot) in
    let first = c.slot_of-first.result in
    found_first _ _ (λ o. o) at refl (λ y. (y, refl)) c.find_map.result c.find_map.ensures.runs (YieldsList-from_range first (first + 9) 9 refl (omega arith)) (λ a r q call. search rules) (λ x o call. search rules)
    ∙ ap₂ or_else (ap at c.slot_of-first.ensures) (first_along 8 0 (first + 1) (first + 1) at _ (omega arith) (λ t. let same : first + 1 + t ≡ 9 * c.args.place + (t + 1) = omega (arith, c.slot_of-first.ensures) in ap at same))
