use Rattle.std.proofs.Common.{arith}
use Rattle.slots.proofs.Places.{first_small}
use Rattle.slots.proofs.holders.HoldersIterator.next.Goals as goal

pub overflow_add-result : goal.overflow_add-result
overflow_add-result c = omega (arith, first_small _ _ _ c.in_ok-place.ensures.steps)
