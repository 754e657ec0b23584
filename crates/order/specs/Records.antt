-- The accepted record: a list of events, the newest first. Assumes nothing.
-- The oldest event has position 0 and serial 1; an event's serial is its position and one.
--   holds_at rec i f   the event at position i, with the record before it, passes the test f
--   before rec i       the record before position i
--   latest f rec       the newest position at which f holds
--   started, ended     thread t has been forked, or is thread 0; it has been joined
--   running            started and not ended
--   lock_holder        the thread that acquired the lock and has not released it
use Rattle.std.specs.Prelude.{ℕ, Bool, false, cond, not, ◌&&◌, ◌||◌, List, [], ◌∷◌, length, Some, None, Option, ◌==◌, nat_lt}
use Rattle.events.specs.declared.Event.{Event}
use Rattle.order.specs.Acts.{acquires, releases, forks, joins}

-- a test of an event in the light of the record before it
abbrev pub Test : Type 0
Test = List Event → Event → Bool

unfoldable pub holds_at : List Event → ℕ → Test → Bool
holds_at [] i f = false
holds_at (e ∷ rec) i f = cond (i == length rec) (f rec e) (holds_at rec i f)

unfoldable pub before : List Event → ℕ → List Event
before [] i = []
before (e ∷ rec) i = cond (nat_lt (length rec) i) (e ∷ rec) (before rec i)

unfoldable pub latest : Test → List Event → Option ℕ
latest f [] = None
latest f (e ∷ rec) = cond (f rec e) (Some (length rec)) (latest f rec)

unfoldable pub started : List Event → ℕ → Bool
started [] t = t == 0
started (e ∷ rec) t = forks e t || started rec t

unfoldable pub ended : List Event → ℕ → Bool
ended [] t = false
ended (e ∷ rec) t = joins e t || ended rec t

unfoldable pub running : List Event → ℕ → Bool
running rec t = started rec t && not (ended rec t)

unfoldable pub lock_holder : List Event → ℕ → Option ℕ
lock_holder [] l = None
lock_holder (e ∷ rec) l = cond (acquires e l) (Some e.thread) (cond (releases e l) None (lock_holder rec l))
