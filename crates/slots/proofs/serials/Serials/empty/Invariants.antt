use Rattle.std.proofs.Common.{◌≡◌, ℕ, ◌<◌, cond, ◌&&◌, ltb, leb}
use Rattle.slots.specs.Serials.{number_at}
use Rattle.slots.proofs.serials.Serials.empty.Given as goal

-- the slots so far are empty
abbrev pub invariant-loop-slot : goal.invariant-loop-slot
invariant-loop-slot l =
    (s : ℕ) → s < 576 → number_at l.self s ≡ cond (leb l.first s && ltb s l.slot) 0 (number_at l.initial.self s)
