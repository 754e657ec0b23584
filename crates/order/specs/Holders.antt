-- Givers and takers: through what an event hands over. Assumes nothing.
--   Holder          a thread, a lock, a flag or a place, by its number
--   gives rec e h   e, after the record, gives to h: its thread, a thread that it forks, a lock that it releases,
--                   a flag that it writes, a place that it commits
--   takes rec e h   e takes from h: its thread, a thread that it joins, a lock that it acquires, a flag that it
--                   reads, a place that it commits
--   Reached rec i h the event at i, or one that it is ordered before, gives to h
--   reached         the same, as a test that computes
--   holder_number   threads 0 to 7, locks 8 to 39, flags 40 to 71, places 72 to 135
use Rattle.std.specs.Prelude.{◌≡◌, ℕ, ◌+◌, ◌<◌, Bool, true, ◌&&◌, ◌||◌, ◌⊎◌, List, length, ◌==◌}
use Rattle.events.specs.declared.Event.{Event}
use Rattle.order.specs.Searches.{some_below}
use Rattle.order.specs.Acts.{acquires, releases, reads_flag, writes_flag, forks, joins, commits}
use Rattle.order.specs.Records.{holds_at}
use Rattle.order.specs.Order.{Ordered, ordered}

pub data Holder : Type 0 where
  of_thread : ℕ → Holder
  of_lock : ℕ → Holder
  of_flag : ℕ → Holder
  of_place : ℕ → Holder

unfoldable pub gives : List Event → Event → Holder → Bool
gives rec e (of_thread t) = e.thread == t || forks e t
gives rec e (of_lock l) = releases e l
gives rec e (of_flag f) = writes_flag e f
gives rec e (of_place p) = commits e p

unfoldable pub takes : List Event → Event → Holder → Bool
takes rec e (of_thread t) = e.thread == t || joins e t
takes rec e (of_lock l) = acquires e l
takes rec e (of_flag f) = reads_flag e f
takes rec e (of_place p) = commits e p

abbrev pub gives_at : List Event → ℕ → Holder → Bool
gives_at rec i h = holds_at rec i (λ past e. gives past e h)

pub record Reached (rec : List Event) (i : ℕ) (h : Holder) : Type 0 where
  pub giver : ℕ
  pub from : (i ≡ giver) ⊎ Ordered rec i giver
  pub gives : gives_at rec giver h ≡ true

unfoldable pub reached : List Event → ℕ → Holder → Bool
reached rec i h = some_below (length rec) (λ k. (i == k || ordered rec i k) && gives_at rec k h)

abbrev pub holder_number : Holder → ℕ
holder_number (of_thread t) = t
holder_number (of_lock l) = 8 + l
holder_number (of_flag f) = 40 + f
holder_number (of_place p) = 72 + p

-- the holder has a number of its own
abbrev pub InRange : Holder → Type 0
InRange (of_thread t) = t < 8
InRange (of_lock l) = l < 32
InRange (of_flag f) = f < 32
InRange (of_place p) = p < 64
