-- Which events are ordered before which: happens-before. Assumes nothing.
--   by_lock ..      one of the six pairs of events that hand over, the first event the earlier one
--   hands_over      the events at two positions of a record are such a pair
--   Step            from an event to a later one of the same thread, or by a hand-over
--   Ordered         a chain of steps leads from the first position to the second
--   ordered         the same, as a test that computes
use Rattle.std.specs.Prelude.{◌≡◌, ℕ, ◌<◌, Bool, true, false, cond, ◌&&◌, ◌||◌, List, [], ◌∷◌, length, ◌==◌, nat_eq}
use Rattle.events.specs.declared.Event.{Event}
use Rattle.order.specs.Searches.{some_below}
use Rattle.order.specs.Acts.{is, operand, commits}
use Rattle.order.specs.Records.{holds_at}

-- a release and an acquire of one lock
unfoldable pub by_lock : Event → Event → Bool
by_lock a b = is 3 a && is 2 b && operand a.action == operand b.action

-- a write and a read of one flag
unfoldable pub by_flag : Event → Event → Bool
by_flag a b = is 5 a && is 4 b && operand a.action == operand b.action

-- a fork of a thread and any event of it
unfoldable pub by_fork : Event → Event → Bool
by_fork a b = is 6 a && operand a.action == b.thread

-- any event of a thread and a join of it
unfoldable pub by_join : Event → Event → Bool
by_join a b = is 7 b && a.thread == operand b.action

-- a fork and a join of one thread
unfoldable pub by_fork_join : Event → Event → Bool
by_fork_join a b = is 6 a && is 7 b && operand a.action == operand b.action

-- two commits that share a place, whichever of their sets it is in
unfoldable pub by_commits : Event → Event → Bool
by_commits a b = some_below 64 (λ p. commits a p && commits b p)

-- event a, with the record before it, hands over to event b, with the record before that one
unfoldable pub pair : List Event → Event → List Event → Event → Bool
pair past a past' b = by_lock a b || by_flag a b || by_fork a b || by_join a b || by_fork_join a b || by_commits a b

unfoldable pub hands_over : List Event → ℕ → ℕ → Bool
hands_over rec i j = holds_at rec i (λ past a. holds_at rec j (λ past' b. pair past a past' b))

unfoldable pub same_thread : List Event → ℕ → ℕ → Bool
same_thread rec i j = holds_at rec i (λ past a. holds_at rec j (λ past' b. nat_eq a.thread b.thread))

-- the events are one thread's, or the first hands over to the second
unfoldable pub linked : List Event → ℕ → ℕ → Bool
linked rec i j = same_thread rec i j || hands_over rec i j

pub record Step (rec : List Event) (i j : ℕ) : Type 0 where
  pub earlier : i < j
  pub within : j < length rec
  pub link : linked rec i j ≡ true

pub data Chain (R : ℕ → ℕ → Type 0) : ℕ → ℕ → Type 0 where
  one : {i j : ℕ} → R i j → Chain R i j
  more : {i j k : ℕ} → Chain R i j → R j k → Chain R i k

abbrev pub Ordered : List Event → ℕ → ℕ → Type 0
Ordered rec = Chain (Step rec)

-- a chain to the newest event ends in a step from i, or from an event that i is ordered before
unfoldable pub ordered : List Event → ℕ → ℕ → Bool
ordered [] i j = false
ordered (e ∷ rec) i j =
    cond
    (j == length rec)
    (some_below (length rec) (λ k. linked (e ∷ rec) k j && (k == i || ordered rec i k)))
    (ordered rec i j)

-- position i is ordered before the event e, which stands as if at the record's end
abbrev pub ordered_before : List Event → Event → ℕ → Bool
ordered_before rec e i = ordered (e ∷ rec) i (length rec)
