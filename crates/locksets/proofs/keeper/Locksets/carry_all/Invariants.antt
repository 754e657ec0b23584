use Rattle.std.proofs.Common.{◌≡◌, ℕ, ◌<◌, ◌≤◌, length}
use Rattle.locksets.specs.Kept.{set_at, Carries}
use Rattle.locksets.proofs.keeper.Locksets.carry_all.Given as goal

-- the slots passed have been carried, the others are as they were
abbrev pub invariant-loop-set : goal.invariant-loop-set
invariant-loop-set l = record {
  whole : length l.set-items ≡ 576;
  passed : (s : ℕ) → s < l.set-index → Carries l.fn.self.sets l.set-items l.from l.to s;
  rest : (s : ℕ) → l.set-index ≤ s → set_at l.set-items s ≡ set_at l.fn.self.sets s;
}
