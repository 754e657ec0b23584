use Rattle.std.proofs.Common.{◌≡◌, cond, sym, ap, ◌∙◌}
use lib.Bits.{bit_or}
use Rattle.events.specs.Places.{member, those_below, places_left}
use Rattle.order.proofs.Passes.{has}
use Rattle.slots.specs.Made.{made}
use Rattle.slots.specs.Serials.{serial_at}
use Rattle.slots.proofs.Accesses.{at_place, write_then, read_then, commit_places}
use Rattle.slots.proofs.Calls.{commits, commits_all, commits_write, commits_read}
use Rattle.slots.proofs.table.Slots.commit.Goals as goal

pub loop-place-init : goal.loop-place-init
loop-place-init g c =
    let t = c.args.step.thread in
    let r = c.args.reads.word in
    let w = c.args.writes.word in
    let all : places_left c.into_iter-place-iterator.result ≡ those_below 64 (member (bit_or r w)) =
    ap (λ s. those_below 64 (member s.word)) c.into_iter-place-iterator.ensures.into_iter_gives ∙ ap (λ v. those_below 64 (member v)) c.union-place-items.ensures in (
      λ live. (live, ap (λ cs. made cs (g.K.Keeper.meaning c.args.self.now.keeper)) (ap (commits t w) all ∙ sym (commits_all 64 t r w))),
      λ p k a b. let x = serial_at c.args.self.now.serials p k in ap (λ ps. cond (has ps p) (at_place w t c.args.step.serial p k x) x) all ∙ commit_places r w t c.args.step.serial p k x a,
    )

pub loop-place-preserved-then-contains : goal.loop-place-preserved-then-contains
loop-place-preserved-then-contains g c =
    let t = c.args.step.thread in
    let n = c.args.step.serial in
    let w = c.args.writes.word in
    let q = c.in-Some.place in
    let rest = places_left c.next.new.self in
    let writes = sym c.if-contains.ensures in (
      λ live.
          let inv = c.loop-place.invariant.0 live in
          let after = c.write.ensures.keeper inv.0 in
          (after.0, ap (made (commits t w rest)) after.1 ∙ sym (commits_write t w q rest (g.K.Keeper.meaning c.loop-place.self.keeper) writes) ∙ sym (ap (λ ps. made (commits t w ps) (g.K.Keeper.meaning c.loop-place.self.keeper)) c.in-Some.ensures.steps) ∙ inv.1),
      λ p k a b.
          let x = serial_at c.loop-place.self.serials p k in
          ap (λ y. cond (has rest p) (at_place w t n p k y) y) (c.write.ensures.serials p k a b)
          ∙ write_then q w t n p k x (has rest p) writes
          ∙ sym (ap (λ ps. cond (has ps p) (at_place w t n p k x) x) c.in-Some.ensures.steps)
          ∙ c.loop-place.invariant.1 p k a b,
    )

pub loop-place-preserved : goal.loop-place-preserved
loop-place-preserved g c =
    let t = c.args.step.thread in
    let n = c.args.step.serial in
    let w = c.args.writes.word in
    let q = c.in-Some.place in
    let rest = places_left c.next.new.self in
    let reads = sym c.if-contains.ensures in (
      λ live.
          let inv = c.loop-place.invariant.0 live in
          let after = c.read.ensures.keeper inv.0 in
          (after.0, ap (made (commits t w rest)) after.1 ∙ sym (commits_read t w q rest (g.K.Keeper.meaning c.loop-place.self.keeper) reads) ∙ sym (ap (λ ps. made (commits t w ps) (g.K.Keeper.meaning c.loop-place.self.keeper)) c.in-Some.ensures.steps) ∙ inv.1),
      λ p k a b.
          let x = serial_at c.loop-place.self.serials p k in
          ap (λ y. cond (has rest p) (at_place w t n p k y) y) (c.read.ensures.serials p k a b)
          ∙ read_then q w t n p k x (has rest p) reads
          ∙ sym (ap (λ ps. cond (has ps p) (at_place w t n p k x) x) c.in-Some.ensures.steps)
          ∙ c.loop-place.invariant.1 p k a b,
    )
