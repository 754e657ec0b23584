use Rattle.std.proofs.Common.{◌≡◌, ℕ, ◌<◌, cond}
use Rattle.events.specs.Places.{places_left}
use Rattle.order.proofs.Passes.{has}
use Rattle.order.specs.Work.{committed}
use Rattle.slots.specs.Made.{made}
use Rattle.slots.specs.Serials.{serial_at, by_commit}
use Rattle.slots.proofs.Accesses.{at_place}
use Rattle.slots.proofs.Calls.{commits}
use Rattle.slots.proofs.table.Slots.commit.Given as goal

-- what is left to commit gives the whole effect
abbrev pub invariant-loop-place : goal.invariant-loop-place
invariant-loop-place g l =
    let m = g.K.Keeper.meaning in
    let t = l.step.thread in
    let n = l.step.serial in
    let r = l.fn.reads.word in
    let w = l.writes.word in
    let left = places_left l.place-iterator in
    let old = l.initial.self in
    (g.K.Keeper.live old.keeper → g.K.Keeper.live l.self.keeper × (made (commits t w left) (m l.self.keeper) ≡ made (committed 64 t r w) (m old.keeper)))
    × ((p k : ℕ) → p < 64 → k < 9 → (let x = serial_at l.self.serials p k in cond (has left p) (at_place w t n p k x) x ≡ by_commit r w t n p k (serial_at old.serials p k)))
