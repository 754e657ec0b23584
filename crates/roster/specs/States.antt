-- What a roster holds, as functions of a thread's or a lock's number. Assumes nothing.
--   element n xs d k   element k of xs where k is below n, and d for any other k
--   holder_of table l  the thread that holds lock l; none for 32 and more
--   holds_some n h t   thread t holds some lock below n, where h tells the holders
--   state_of r t       the state of thread t; unstarted for 8 and more
--   begun r t          thread t has started, and may have ended since
--   over r t           thread t has ended
--   holders r l        the thread that holds lock l
use Rattle.std.specs.Prelude.{ℕ, Bool, true, false, cond, List, None, Option, nat_lt, slice_index_or}
use Rattle.order.specs.Faults.{held_by}
use Rattle.order.specs.Searches.{some_below}
use Rattle.roster.specs.declared.locks.Lock.{Lock}
use Rattle.roster.specs.declared.locks.LockTable.{LockTable}
use Rattle.roster.specs.declared.roster.Roster.{Roster}
use Rattle.roster.specs.declared.roster.ThreadState.{ThreadState}
use Rattle.roster.specs.declared.roster.ThreadState.TheVariants.{Unstarted, Running, Ended}

abbrev pub element : {X : Type 0} → ℕ → List X → X → ℕ → X
element n xs d k = cond (nat_lt k n) (slice_index_or xs k d) d

abbrev pub free : Lock
free = record { holder = None }

abbrev pub holder_of : LockTable → ℕ → Option ℕ
holder_of table l = (element 32 table.locks free l).holder

unfoldable pub holds_some : ℕ → (ℕ → Option ℕ) → ℕ → Bool
holds_some n holder t = some_below n (λ l. held_by (holder l) t)

abbrev pub state_of : Roster → ℕ → ThreadState
state_of r t = element 8 r.threads Unstarted t

abbrev pub has_begun : ThreadState → Bool
has_begun Unstarted = false
has_begun Running = true
has_begun Ended = true

abbrev pub is_over : ThreadState → Bool
is_over Unstarted = false
is_over Running = false
is_over Ended = true

abbrev pub begun : Roster → ℕ → Bool
begun r t = has_begun (state_of r t)

abbrev pub over : Roster → ℕ → Bool
over r t = is_over (state_of r t)

abbrev pub holders : Roster → ℕ → Option ℕ
holders r = holder_of r.locks
