use Rattle.std.proofs.Common.{◌≡◌}
use Rattle.weighings.specs.Steps.{slip_with}
use Rattle.weighings.proofs.Sets.{below}
use Rattle.weighings.proofs.calls.slip_of.Given as goal

-- the slip has the places so far
abbrev pub invariant-loop-place : goal.invariant-loop-place
invariant-loop-place l = l.slip ≡ slip_with l.fn.thread (below l.fn.reads l.place) (below l.fn.writes l.place)
