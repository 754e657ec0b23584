use Rattle.std.proofs.Common.{◌≡◌, ◌-◌, ◌≤◌, length}
use Rattle.trace.specs.Layout.{body_end, bad_entry}
use Rattle.trace.proofs.layout.check_entries.Given as goal

-- the entries below i are right, and the part before section i + 1 ends at `end`
abbrev pub invariant-loop-i : goal.invariant-loop-i
invariant-loop-i l =
    (l.end ≡ body_end l.bytes l.i) × (l.end ≤ length l.bytes) × (bad_entry l.bytes (l.sections - l.i) l.i ≡ bad_entry l.bytes l.sections 0)
