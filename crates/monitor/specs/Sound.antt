-- What is promised of a record for which a monitor stands, and of the answer to an event. Assumes nothing.
--   RightVerdict rec e a   the answer a to the event e, offered after the record, is right
--   Sound rec              what the certificate says of a record
use Rattle.std.specs.Prelude.{◌≡◌, ℕ, true, List, length, Some}
use Rattle.events.specs.declared.Event.{Event}
use Rattle.order.specs.Conflicts.{RaceFree}
use Rattle.order.specs.Judgement.{Answer, judge}
use Rattle.order.specs.Rearrangements.{Rearrangement, positions, SameReads}
use Rattle.order.specs.Records.{running, lock_holder}
use Rattle.order.specs.Verdicts.{Right}

-- the answer is the judgement's, which is right: declined just where the event races, with the witness that the rule
-- names; else accepted with the next serial; but refused by the first number that applies, if one does
pub record RightVerdict (rec : List Event) (e : Event) (a : Answer) : Type 0 where
  pub judged : a ≡ judge rec e
  pub right : Right rec e a

pub record Sound (rec : List Event) : Type 0 where
  -- of any two conflicting accesses one is ordered before the other
  pub ordered : RaceFree rec
  -- a lock's holder is a running thread
  pub holders : (l t : ℕ) → lock_holder rec l ≡ Some t → running rec t ≡ true
  -- in every rearrangement that keeps thread order and hand-overs each read has the same latest write
  pub reads : SameReads rec
  -- and the record's own order is one of these
  pub own : Rearrangement (positions (length rec)) rec
