use Rattle.std.proofs.Common.{◌≡◌, ◌+◌, cond, ◌&&◌, ltb, leb, ap, ◌∙◌, arith}
use Rattle.slots.specs.Serials.{number_at}
use Rattle.slots.proofs.Accesses.{forget_next}
use Rattle.slots.proofs.serials.Serials.empty.Goals as goal

pub loop-slot-preserved : goal.loop-slot-preserved
loop-slot-preserved c s range =
    c.put.ensures s ∙ forget_next c.args.first c.loop-slot.slot s (number_at c.args.self.now s) (number_at c.loop-slot.self s) c.loop-slot.auto.slot range (c.loop-slot.invariant s range)

pub returns : goal.returns
returns c s range =
    let all : c.loop-slot.slot ≡ c.args.first + c.args.count = omega (arith, c.loop-slot.auto.slot-end (omega arith)) in
    c.loop-slot.invariant s range ∙ ap (λ n. cond (leb c.args.first s && ltb s n) 0 (number_at c.args.self.now s)) all
