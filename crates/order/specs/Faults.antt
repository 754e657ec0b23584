-- When an offered event is refused: the first of the numbers 1 to 9 that applies. Assumes nothing.
-- All is said of what the record tells: which threads have started, which have ended, who holds each lock, and
-- how many events there are.
--   faults     the tests in the order of their numbers; number 0 never applies
--   rule       the first number whose test passes
--   fault      that number for a record and an offered event
--   applies    number n applies
use Rattle.std.specs.Prelude.{◌≡◌, ℕ, Bool, true, false, not, ◌&&◌, ◌||◌, List, [], ◌∷◌, length, Some, None, Option, ◌==◌, nat_le, slice_index_or}
use Rattle.events.specs.declared.Event.{Event}
use Rattle.order.specs.Searches.{some_below, first_true}
use Rattle.order.specs.Acts.{is, operand}
use Rattle.order.specs.Records.{started, ended, lock_holder}

abbrev pub held : Option ℕ → Bool
held (Some t) = true
held None = false

abbrev pub held_by : Option ℕ → ℕ → Bool
held_by (Some t) u = t == u
held_by None u = false

-- 1: the event's thread, or the one that it forks or joins, is 8 or more
unfoldable pub no_such_thread : Event → Bool
no_such_thread e = nat_le 8 e.thread || (is 6 e || is 7 e) && nat_le 8 (operand e.action)

-- 2: its place is 64 or more, its lock or flag 32 or more, its object 16 or more
unfoldable pub no_such_thing : Event → Bool
no_such_thing e =
    (is 0 e || is 1 e) && nat_le 64 (operand e.action) ||
    (is 2 e || is 3 e || is 4 e || is 5 e) && nat_le 32 (operand e.action) ||
    is 8 e && nat_le 16 (operand e.action)

-- 3: its thread is unstarted or ended
unfoldable pub not_running : (ℕ → Bool) → (ℕ → Bool) → Event → Bool
not_running started ended e = not (started e.thread) || ended e.thread

-- 4: the forked thread isn't unstarted
unfoldable pub forked_before : (ℕ → Bool) → Event → Bool
forked_before started e = is 6 e && started (operand e.action)

-- 5: the joined thread is the joiner or unstarted
unfoldable pub joins_amiss : (ℕ → Bool) → Event → Bool
joins_amiss started e = is 7 e && (operand e.action == e.thread || not (started (operand e.action)))

-- 6: the acquired lock is held, by whomever
unfoldable pub lock_held : (ℕ → Option ℕ) → Event → Bool
lock_held holders e = is 2 e && held (holders (operand e.action))

-- 7: the releaser doesn't hold the lock
unfoldable pub lock_not_held : (ℕ → Option ℕ) → Event → Bool
lock_not_held holders e = is 3 e && not (held_by (holders (operand e.action)) e.thread)

-- 8: the joined thread holds a lock
unfoldable pub joined_holds : (ℕ → Option ℕ) → Event → Bool
joined_holds holders e = is 7 e && some_below 32 (λ l. held_by (holders l) (operand e.action))

-- 9: a million events are accepted
unfoldable pub record_full : ℕ → Bool
record_full count = nat_le 1000000 count

unfoldable pub faults : (ℕ → Bool) → (ℕ → Bool) → (ℕ → Option ℕ) → ℕ → Event → List Bool
faults started ended holders count e =
    false ∷
    no_such_thread e ∷
    no_such_thing e ∷
    not_running started ended e ∷
    forked_before started e ∷
    joins_amiss started e ∷
    lock_held holders e ∷
    lock_not_held holders e ∷
    joined_holds holders e ∷
    record_full count ∷
    []

unfoldable pub rule : (ℕ → Bool) → (ℕ → Bool) → (ℕ → Option ℕ) → ℕ → Event → Option ℕ
rule started ended holders count e = first_true 0 (faults started ended holders count e)

abbrev pub faults_of : List Event → Event → List Bool
faults_of rec e = faults (started rec) (ended rec) (lock_holder rec) (length rec) e

abbrev pub fault : List Event → Event → Option ℕ
fault rec e = rule (started rec) (ended rec) (lock_holder rec) (length rec) e

abbrev pub applies : List Event → Event → ℕ → Bool
applies rec e n = slice_index_or (faults_of rec e) n false

-- none of 1 to 9 applied to any event of the record when it came
abbrev pub Lawful : List Event → Type 0
Lawful [] = Unit {0}
Lawful (e ∷ rec) = (fault rec e ≡ None) × Lawful rec
