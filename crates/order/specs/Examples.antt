-- Ten short runs with the answer to each event, as one table. Assumes nothing.
--   answers rec es   the answers to the events es, offered in that order after the record
--   Example          events, oldest first, and the answers to them
--   examples         the table
use Rattle.std.specs.Prelude.{◌≡◌, List, [], ◌∷◌}
use Rattle.std.specs.List.{AllByRecursion}
use Rattle.events.specs.declared.Event.{Event}
use Rattle.events.specs.declared.Action.TheVariants.{Read, Write, Acquire, Release, ReadFlag, WriteFlag, Fork, Join, Allocate, Commit}
use Rattle.events.specs.declared.PlaceSet.{PlaceSet}
use Rattle.order.specs.Acts.{by}
use Rattle.order.specs.Judgement.{Answer, accepted, refused, declined, judge, recorded}

unfoldable pub answers : List Event → List Event → List Answer
answers rec [] = []
answers rec (e ∷ es) = let a = judge rec e in a ∷ answers (recorded rec e a) es

pub record Example : Type 0 where
  pub events : List Event
  pub answers : List Answer

abbrev pub none : PlaceSet
none = record { word = 0 }

-- the set of place 5 alone
abbrev pub five : PlaceSet
five = record { word = 32 }

abbrev pub example : List Event → List Answer → Example
example es as' = record { events = by 0 (Fork 1) ∷ es; answers = accepted 1 ∷ as' }

unfoldable pub examples : List Example
examples =
    example (by 0 (Write 5) ∷ by 1 (Read 5) ∷ []) (accepted 2 ∷ declined 5 2 ∷ []) ∷
    example
    (by 0 (Write 5) ∷ by 0 (Fork 2) ∷ by 1 (Join 2) ∷ by 1 (Read 5) ∷ [])
    (accepted 2 ∷ accepted 3 ∷ accepted 4 ∷ accepted 5 ∷ []) ∷
    example
    (by 0 (Acquire 3) ∷ by 0 (Write 5) ∷ by 0 (Release 3) ∷ by 1 (Acquire 3) ∷ by 1 (Read 5) ∷ [])
    (accepted 2 ∷ accepted 3 ∷ accepted 4 ∷ accepted 5 ∷ accepted 6 ∷ []) ∷
    example
    (by 0 (Acquire 3) ∷ by 0 (Write 5) ∷ by 0 (Release 3) ∷ by 1 (Acquire 4) ∷ by 1 (Read 5) ∷ [])
    (accepted 2 ∷ accepted 3 ∷ accepted 4 ∷ accepted 5 ∷ declined 5 3 ∷ []) ∷
    example (by 0 (Read 5) ∷ by 1 (Read 5) ∷ by 1 (Write 5) ∷ []) (accepted 2 ∷ accepted 3 ∷ declined 5 2 ∷ []) ∷
    example
    (by 0 (Write 5) ∷ by 0 (WriteFlag 0) ∷ by 1 (ReadFlag 0) ∷ by 1 (Write 5) ∷ [])
    (accepted 2 ∷ accepted 3 ∷ accepted 4 ∷ accepted 5 ∷ []) ∷
    example (by 0 (Commit none five) ∷ by 1 (Read 5) ∷ []) (accepted 2 ∷ declined 5 2 ∷ []) ∷
    example
    (by 0 (Write 7) ∷ by 0 (Commit none five) ∷ by 1 (Commit five none) ∷ by 1 (Read 7) ∷ [])
    (accepted 2 ∷ accepted 3 ∷ accepted 4 ∷ accepted 5 ∷ []) ∷
    example (by 0 (Write 5) ∷ by 1 (Allocate 1) ∷ by 1 (Write 5) ∷ []) (accepted 2 ∷ accepted 3 ∷ accepted 4 ∷ []) ∷
    example (by 0 (Join 1) ∷ by 1 (Read 5) ∷ []) (accepted 2 ∷ refused 3 ∷ []) ∷
    []

-- every run of the table is answered as it says
abbrev pub AsWorked : Type 0
AsWorked = AllByRecursion (λ x. answers [] x.events ≡ x.answers) examples
