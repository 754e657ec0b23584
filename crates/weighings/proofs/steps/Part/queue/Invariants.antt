use Rattle.std.proofs.Common.{◌≡◌, ◌++◌, map, take, deque_items}
use Rattle.weighings.specs.Steps.{call_of}
use Rattle.weighings.proofs.steps.Part.queue.Given as goal

-- the calls of the steps so far are listed behind the others
abbrev pub invariant-loop-step : goal.invariant-loop-step
invariant-loop-step l =
    deque_items l.calls ≡ deque_items l.initial.calls ++ map call_of (take l.step-index l.step-items)
