use Rattle.std.proofs.Common.{length, sym, ap, ◌∙◌, arith}
use Rattle.events.specs.Places.{member, those_below}
use Rattle.order.proofs.PassCounts.{place_holders_union}
use Rattle.slots.proofs.passes.passes_of.Goals as goal

pub returns-in-Commit : goal.returns-in-Commit
returns-in-Commit c =
    let count = c.len.ensures.places ∙ ap (λ v. length (those_below 64 (member v))) c.union.ensures ∙ sym (place_holders_union c.in-Commit.reads.word c.in-Commit.writes.word) in
    rw c.in-Commit.is (omega arith)
