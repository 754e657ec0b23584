use Rattle.std.proofs.Common.{sym, ◌∙◌}
use Rattle.order.specs.Slots.{place_holders}
use Rattle.slots.proofs.Places.{holders_small, capped_same}
use Rattle.slots.proofs.holders.Holders.takes_from.Goals as goal

pub returns-in-Commit : goal.returns-in-Commit
returns-in-Commit c =
    let r = c.in-Commit.reads.word in
    let w = c.in-Commit.writes.word in
    c.of_places.ensures ∙ rw c.in-Commit.is (sym (capped_same (place_holders r w) (holders_small r w)))
