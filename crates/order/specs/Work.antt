-- The work of an accepted event on a keeper, as the calls that it makes. Assumes nothing.
-- Place p has its write slot at 9p and the read slot of thread t at 9p + 1 + t.
--   Call            begin a slot with a thread, forget a slot, pass from one holder to another
--   accesses t a    the begins and forgets of thread t's action a
--   passes_of e, passes_by rec   how many passes an event makes, and all events of a record
--   calls e         all calls of an event: passes to its thread, its accesses, passes from its thread
use Rattle.std.specs.Prelude.{ℕ, zero, suc, ◌+◌, ◌*◌, cond, List, [], ◌∷◌, ◌++◌, map, length}
use Rattle.events.specs.declared.Event.{Event}
use Rattle.events.specs.declared.Action.{Action}
use Rattle.events.specs.declared.Action.TheVariants.{Read, Write, Acquire, Release, ReadFlag, WriteFlag, Fork, Join, Allocate, Commit}
use Rattle.events.specs.Places.{member}
use Rattle.order.specs.Slots.{taken, given}

pub data Call : Type 0 where
  begin : ℕ → ℕ → Call
  forget : ℕ → Call
  pass : ℕ → ℕ → Call

-- forgets n slots from i on
unfoldable pub forget_from : ℕ → ℕ → List Call
forget_from zero i = []
forget_from (suc n) i = forget i ∷ forget_from n (i + 1)

-- a write begins its slot and forgets the place's eight read slots; a read begins its slot
abbrev pub written : ℕ → ℕ → List Call
written t p = begin (9 * p) t ∷ forget_from 8 (9 * p + 1)

abbrev pub looked_at : ℕ → ℕ → List Call
looked_at t p = begin (9 * p + (t + 1)) t ∷ []

-- a commit's accesses of the places below n
unfoldable pub committed : ℕ → ℕ → ℕ → ℕ → List Call
committed zero t r w = []
committed (suc n) t r w = committed n t r w ++ cond (member w n) (written t n) (cond (member r n) (looked_at t n) [])

abbrev pub accesses : ℕ → Action → List Call
accesses t (Read p) = looked_at t p
accesses t (Write p) = written t p
accesses t (Acquire l) = []
accesses t (Release l) = []
accesses t (ReadFlag f) = []
accesses t (WriteFlag f) = []
accesses t (Fork u) = []
accesses t (Join u) = []
accesses t (Allocate o) = forget_from 36 (36 * o)
accesses t (Commit r w) = committed 64 t r.word w.word

unfoldable pub calls : Event → List Call
calls e =
    map (λ h. pass h e.thread) (taken e.action) ++
    (accesses e.thread e.action ++ map (λ h. pass e.thread h) (given e.action))

-- how many passes an accepted event makes, and a record
abbrev pub passes_of : Event → ℕ
passes_of e = length (taken e.action) + length (given e.action)

abbrev pub passes_by : List Event → ℕ
passes_by [] = 0
passes_by (e ∷ rec) = passes_by rec + passes_of e
