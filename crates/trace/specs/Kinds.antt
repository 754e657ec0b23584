-- The kinds of events by the numbers that stand in a file. Assumes nothing.
--   code k         the number of the kind, 0 to 9
--   Decodes n r    r is the kind of that number, or the fault where there is none
use Rattle.std.specs.Prelude.{◌≡◌, ℕ, ◌≤◌, MatchResult, Result}
use Rattle.trace.specs.declared.kind.Kind.{Kind}
use Rattle.trace.specs.declared.kind.Kind.TheVariants.{Read, Write, Acquire, Release, ReadFlag, WriteFlag, Fork, Join, Allocate, Commit}
use Rattle.trace.specs.declared.fault.TraceFault.{TraceFault}
use Rattle.trace.specs.declared.fault.TraceFault.TheVariants.{Kind as NoSuchKind}

abbrev pub code : Kind → ℕ
code Read = 0
code Write = 1
code Acquire = 2
code Release = 3
code ReadFlag = 4
code WriteFlag = 5
code Fork = 6
code Join = 7
code Allocate = 8
code Commit = 9

abbrev pub Decodes : ℕ → Result Kind TraceFault → Type 0
Decodes n r = MatchResult r (λ k. code k ≡ n) (λ f. (f ≡ NoSuchKind) × (10 ≤ n))
