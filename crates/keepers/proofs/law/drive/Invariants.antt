use Rattle.std.proofs.Common.{◌≡◌, ◌≤◌, ◌++◌, length, drop, vec_items, vec_len, vec_capacity}
use Rattle.keepers.specs.Meaning.{cleared}
use Rattle.keepers.specs.Calls.{answers_to, after_all}
use Rattle.keepers.proofs.law.drive.Given as goal

-- what is left to call gives the rest of the answers and the rest of the effect; there is room for every answer
abbrev pub invariant-loop-call : goal.invariant-loop-call
invariant-loop-call g l = let m = g.K.Keeper.meaning l.keeper in
    (g.K.Keeper.live l.keeper)
    × (after_all m (drop l.call-index l.calls) ≡ after_all cleared l.calls)
    × (vec_items l.answers ++ answers_to m (drop l.call-index l.calls) ≡ answers_to cleared l.calls)
    × (vec_len l.answers ≡ l.call-index)
    × (length l.calls ≤ vec_capacity l.answers)
