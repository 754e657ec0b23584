use Rattle.std.proofs.Common.{◌≡◌, take, deque_items}
use Rattle.weighings.specs.Steps.{calls_of}
use Rattle.weighings.proofs.calls.listed.Given as goal

-- the calls of the parts so far are listed
abbrev pub invariant-loop-part : goal.invariant-loop-part
invariant-loop-part l = deque_items l.calls ≡ calls_of (take l.part-index l.parts)
