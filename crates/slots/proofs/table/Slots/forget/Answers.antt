use Rattle.std.proofs.Math.Logic.{∥∥₁_map}
use Rattle.slots.proofs.table.Slots.forget.Goals as goal

pub invariant_of-self : goal.invariant_of-self
invariant_of-self g c = record { lives = ∥∥₁_map c.args.self.now.lives (λ live. (c.forget_slots.ensures live).0) }
