-- The kinds of actions by number. Assumes nothing.
--   kind a   0 reads, 1 writes a place; 2 acquires, 3 releases a lock; 4 reads, 5 writes a flag;
--            6 forks, 7 joins a thread; 8 allocates an object; 9 commits a transaction
use Rattle.std.specs.Prelude.{ℕ}
use Rattle.events.specs.declared.Action.{Action}
use Rattle.events.specs.declared.Action.TheVariants.{Read, Write, Acquire, Release, ReadFlag, WriteFlag, Fork, Join, Allocate, Commit}

abbrev pub kind : Action → ℕ
kind (Read p) = 0
kind (Write p) = 1
kind (Acquire l) = 2
kind (Release l) = 3
kind (ReadFlag f) = 4
kind (WriteFlag f) = 5
kind (Fork u) = 6
kind (Join u) = 7
kind (Allocate o) = 8
kind (Commit r w) = 9
