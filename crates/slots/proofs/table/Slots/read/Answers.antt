use Rattle.std.proofs.Common.{◌+◌, ◌*◌, sym, ◌∙◌, arith}
use Rattle.std.proofs.Math.Logic.{∥∥₁_map}
use Rattle.keepers.proofs.Laws.{begun_same}
use Rattle.slots.specs.Serials.{serial_at}
use Rattle.slots.proofs.Accesses.{read_at, read_past}
use Rattle.slots.proofs.table.Slots.read.Goals as goal

pub returns-then-step-ge-THREADS-clause-keeper : goal.returns-then-step-ge-THREADS-clause-keeper
returns-then-step-ge-THREADS-clause-keeper g c live =
    (live, sym (begun_same (g.K.Keeper.meaning c.args.self.now.keeper) (9 * c.args.place + (c.args.step.thread + 1)) c.args.step.thread (λ _ l. omega arith)))

pub returns-then-step-ge-THREADS-clause-serials : goal.returns-then-step-ge-THREADS-clause-serials
returns-then-step-ge-THREADS-clause-serials g c p k a b = sym (read_past c.args.place c.args.step.thread c.args.step.serial p k (serial_at c.args.self.now.serials p k) (omega arith) b)

pub invariant_of-self : goal.invariant_of-self
invariant_of-self g c = record { lives = ∥∥₁_map c.args.self.now.lives c.begin.ensures.lives }

pub returns-clause-serials : goal.returns-clause-serials
returns-clause-serials g c p k a b =
    (rw c.slot_of-slot.ensures at c.put.ensures (9 * p + k)) ∙ read_at c.args.place c.args.step.thread c.args.step.serial p k (serial_at c.args.self.now.serials p k) (omega arith) a b
