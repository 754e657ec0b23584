use Rattle.std.proofs.Common.{◌≡◌, ℕ, ◌<◌, cond, ◌&&◌, eqb, ltb}
use Rattle.clocks.specs.Vectors.{heard_of}
use Rattle.clocks.proofs.keeper.first_clocks.Given as goal

-- the threads passed have their own count at 1
abbrev pub invariant-loop-thread : goal.invariant-loop-thread
invariant-loop-thread l = (h t : ℕ) → h < 8 → t < 8 → heard_of l.clock-items h t ≡ cond (eqb h t && ltb h l.thread) 1 0
