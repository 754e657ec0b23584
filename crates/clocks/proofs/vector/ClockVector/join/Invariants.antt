use Rattle.std.proofs.Common.{◌≡◌, ℕ, ◌<◌, ◌≤◌, max, get_or}
use Rattle.clocks.proofs.vector.ClockVector.join.Given as goal

-- the threads passed have the larger count, the others are as they were
abbrev pub invariant-loop-thread : goal.invariant-loop-thread
invariant-loop-thread l =
    ((t : ℕ) → t < l.thread → get_or l.count-items t 0 ≡ max (get_or l.fn.self.counts t 0) (get_or l.other.counts t 0))
    × ((t : ℕ) → l.thread ≤ t → get_or l.count-items t 0 ≡ get_or l.fn.self.counts t 0)
