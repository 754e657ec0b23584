-- How an offered event is judged: refused, declined or accepted. Assumes nothing.
--   latest_write rec p     the latest write of p in its current life
--   latest_read rec p t    the latest read of p in its current life by thread t
--   unordered rec e o      the access o, unless it is ordered before e
--   witness rec e p        what e races with at p: the latest write if unordered; otherwise, for a write, the
--                          unordered latest read of the lowest-numbered thread
--   race rec e             the lowest place with a witness, and the witness
--   judge rec e            the answer to e, offered after the record
use Rattle.std.specs.Prelude.{ℕ, ◌+◌, Bool, cond, ◌&&◌, List, ◌∷◌, length, Some, None, Option, ◌==◌}
use Rattle.events.specs.declared.Event.{Event}
use Rattle.order.specs.Searches.{first_from, or_else}
use Rattle.order.specs.Acts.{writes_place, reads_place, touches}
use Rattle.order.specs.Records.{latest}
use Rattle.order.specs.Order.{ordered_before}
use Rattle.order.specs.Conflicts.{lives, in_life}
use Rattle.order.specs.Faults.{fault}

pub data Answer : Type 0 where
  accepted : ℕ → Answer
  refused : ℕ → Answer
  declined : ℕ → ℕ → Answer

-- thread t reads the place
unfoldable pub reads_by : ℕ → Event → ℕ → Bool
reads_by t e p = reads_place e p && e.thread == t

unfoldable pub latest_write : List Event → ℕ → Option ℕ
latest_write rec p = latest (in_life writes_place p (lives rec p)) rec

unfoldable pub latest_read : List Event → ℕ → ℕ → Option ℕ
latest_read rec p t = latest (in_life (reads_by t) p (lives rec p)) rec

unfoldable pub unordered : List Event → Event → Option ℕ → Option ℕ
unordered rec e None = None
unordered rec e (Some i) = cond (ordered_before rec e i) None (Some i)

unfoldable pub unordered_read : List Event → Event → ℕ → Option ℕ
unordered_read rec e p = first_from 8 0 (λ t. unordered rec e (latest_read rec p t))

unfoldable pub witness : List Event → Event → ℕ → Option ℕ
witness rec e p =
    cond (touches e p) (or_else (unordered rec e (latest_write rec p)) (cond (writes_place e p) (unordered_read rec e p) None)) None

-- a place and the position of the witness there
pub record Finding : Type 0 where
  pub place : ℕ
  pub witness : ℕ

abbrev pub found : ℕ → Option ℕ → Option Finding
found p None = None
found p (Some i) = Some (record { place = p; witness = i })

unfoldable pub race : List Event → Event → Option Finding
race rec e = first_from 64 0 (λ p. found p (witness rec e p))

abbrev pub verdict : ℕ → Option Finding → Answer
verdict n None = accepted (n + 1)
verdict n (Some f) = declined f.place (f.witness + 1)

abbrev pub ruled : Option ℕ → Answer → Answer
ruled (Some n) a = refused n
ruled None a = a

unfoldable pub judge : List Event → Event → Answer
judge rec e = ruled (fault rec e) (verdict (length rec) (race rec e))

-- the record after the answer to e
abbrev pub recorded : List Event → Event → Answer → List Event
recorded rec e (accepted n) = e ∷ rec
recorded rec e (refused n) = rec
recorded rec e (declined p n) = rec
