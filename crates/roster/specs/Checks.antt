-- The tests of numbers 1 to 9, kind by kind; thread t does action a. Assumes nothing.
--   strange_thread t a       1: t, or the thread that a forks or joins, is 8 or more
--   strange_thing a          2: a's place, lock, flag or object does not exist
--   range_number t a         the first of 1 and 2 that applies
--   child_number begun t a   the first of 4 and 5
--   state_number s begun t a the first of 3 to 5, where t's state is s
--   lock_number holders t a  the first of 6 to 8
--   count_number n           9, where it applies
use Rattle.std.specs.Prelude.{ℕ, Bool, false, cond, not, ◌||◌, Some, None, Option, ◌==◌, nat_le}
use Rattle.events.specs.declared.Action.{Action}
use Rattle.events.specs.declared.Action.TheVariants.{Read, Write, Acquire, Release, ReadFlag, WriteFlag, Fork, Join, Allocate, Commit}
use Rattle.order.specs.Faults.{held, held_by}
use Rattle.roster.specs.declared.roster.ThreadState.{ThreadState}
use Rattle.roster.specs.declared.roster.ThreadState.TheVariants.{Unstarted, Running, Ended}
use Rattle.roster.specs.States.{holds_some}

abbrev pub strange_thread : ℕ → Action → Bool
strange_thread t (Fork u) = nat_le 8 t || nat_le 8 u
strange_thread t (Join u) = nat_le 8 t || nat_le 8 u
strange_thread t (Read p) = nat_le 8 t
strange_thread t (Write p) = nat_le 8 t
strange_thread t (Acquire l) = nat_le 8 t
strange_thread t (Release l) = nat_le 8 t
strange_thread t (ReadFlag f) = nat_le 8 t
strange_thread t (WriteFlag f) = nat_le 8 t
strange_thread t (Allocate o) = nat_le 8 t
strange_thread t (Commit r w) = nat_le 8 t

abbrev pub strange_thing : Action → Bool
strange_thing (Read p) = nat_le 64 p
strange_thing (Write p) = nat_le 64 p
strange_thing (Acquire l) = nat_le 32 l
strange_thing (Release l) = nat_le 32 l
strange_thing (ReadFlag f) = nat_le 32 f
strange_thing (WriteFlag f) = nat_le 32 f
strange_thing (Allocate o) = nat_le 16 o
strange_thing (Fork u) = false
strange_thing (Join u) = false
strange_thing (Commit r w) = false

abbrev pub range_number : ℕ → Action → Option ℕ
range_number t a = cond (strange_thread t a) (Some 1) (cond (strange_thing a) (Some 2) None)

abbrev pub child_number : (ℕ → Bool) → ℕ → Action → Option ℕ
child_number started t (Fork u) = cond (started u) (Some 4) None
child_number started t (Join u) = cond (u == t || not (started u)) (Some 5) None
child_number started t (Read p) = None
child_number started t (Write p) = None
child_number started t (Acquire l) = None
child_number started t (Release l) = None
child_number started t (ReadFlag f) = None
child_number started t (WriteFlag f) = None
child_number started t (Allocate o) = None
child_number started t (Commit r w) = None

abbrev pub state_number : ThreadState → (ℕ → Bool) → ℕ → Action → Option ℕ
state_number Running started t a = child_number started t a
state_number Unstarted started t a = Some 3
state_number Ended started t a = Some 3

abbrev pub lock_number : (ℕ → Option ℕ) → ℕ → Action → Option ℕ
lock_number holder t (Acquire l) = cond (held (holder l)) (Some 6) None
lock_number holder t (Release l) = cond (held_by (holder l) t) None (Some 7)
lock_number holder t (Join u) = cond (holds_some 32 holder u) (Some 8) None
lock_number holder t (Fork u) = None
lock_number holder t (Read p) = None
lock_number holder t (Write p) = None
lock_number holder t (ReadFlag f) = None
lock_number holder t (WriteFlag f) = None
lock_number holder t (Allocate o) = None
lock_number holder t (Commit r w) = None

abbrev pub count_number : ℕ → Option ℕ
count_number n = cond (nat_le 1000000 n) (Some 9) None
