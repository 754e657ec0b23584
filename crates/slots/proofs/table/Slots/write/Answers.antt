use Rattle.std.proofs.Common.{◌≡◌, ◌+◌, ◌*◌, ◌∙◌, arith}
use Rattle.std.proofs.Math.Logic.{∥∥₁_map}
use Rattle.slots.specs.Serials.{serial_at}
use Rattle.slots.proofs.Accesses.{write_at}
use Rattle.slots.proofs.table.Slots.write.Goals as goal

pub returns-clause-serials : goal.returns-clause-serials
returns-clause-serials g c p k a b =
    let first : c.slot_of-first.result ≡ 9 * c.args.place = omega (arith, c.slot_of-first.ensures) in
    (rw first at c.forget.ensures.serials (9 * p + k) (omega arith))
    ∙ write_at c.args.place c.args.step.serial p k _ (serial_at c.args.self.now.serials p k) a b (rw first at c.put.ensures (9 * p + k))

pub invariant_of-self : goal.invariant_of-self
invariant_of-self g c = record { lives = ∥∥₁_map c.args.self.now.lives c.begin.ensures.lives }
