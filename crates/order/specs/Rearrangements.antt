-- Rearrangements of a record: the same events in another order of time. Assumes nothing.
-- A rearrangement is a list of positions of the record, the newest first, as the record is.
--   times order i     how often position i stands in the list
--   when order i      how many events come before the one of position i
--   past order i      the events that come before it
--   seen order rec p j   the write that the read of p at j sees: the last write of p, in the life that p has at j,
--                        among the events that come before j. Lives are those of the record
--   sees_at           the event at j reads p: a commit reads its whole read set, before its own writes
use Rattle.std.specs.Prelude.{◌≡◌, ℕ, zero, suc, ◌+◌, ◌<◌, Bool, true, cond, List, [], ◌∷◌, length, Some, None, Option, ◌==◌, nat_lt}
use Rattle.events.specs.declared.Event.{Event}
use Rattle.order.specs.Acts.{sees}
use Rattle.order.specs.Records.{holds_at}
use Rattle.order.specs.Order.{Step}
use Rattle.order.specs.Conflicts.{life, writes_in}

unfoldable pub times : List ℕ → ℕ → ℕ
times [] i = 0
times (k ∷ ks) i = cond (k == i) 1 0 + times ks i

unfoldable pub when : List ℕ → ℕ → ℕ
when [] i = 0
when (k ∷ ks) i = cond (k == i) (length ks) (when ks i)

unfoldable pub past : List ℕ → ℕ → List ℕ
past [] i = []
past (k ∷ ks) i = cond (k == i) ks (past ks i)

-- each position of the record stands in it once and nothing else does; every step leads forward
pub record Rearrangement (order : List ℕ) (rec : List Event) : Type 0 where
  pub once : (i : ℕ) → times order i ≡ cond (nat_lt i (length rec)) 1 0
  pub keeps : (i j : ℕ) → Step rec i j → when order i < when order j

-- the newest of the positions that passes the test
unfoldable pub newest : (ℕ → Bool) → List ℕ → Option ℕ
newest f [] = None
newest f (k ∷ ks) = cond (f k) (Some k) (newest f ks)

unfoldable pub seen : List ℕ → List Event → ℕ → ℕ → Option ℕ
seen order rec p j = newest (writes_in rec p (life rec p j)) (past order j)

unfoldable pub sees_at : List Event → ℕ → ℕ → Bool
sees_at rec p j = holds_at rec j (λ past e. sees e p)

-- the positions below n: the order of the record itself
unfoldable pub positions : ℕ → List ℕ
positions zero = []
positions (suc n) = n ∷ positions n

-- in every rearrangement each read sees the write that it sees in the record
abbrev pub SameReads : List Event → Type 0
SameReads rec =
    (order : List ℕ) → Rearrangement order rec → (p j : ℕ) → sees_at rec p j ≡ true → seen order rec p j ≡ seen (positions (length rec)) rec p j
