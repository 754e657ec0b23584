-- Answers of the code as those of the theory. Assumes nothing.
--   found_as    a race that the search found, as a finding
--   told_as     what is told of a slot
use Rattle.std.specs.Prelude.{Some, None, Option}
use Rattle.order.specs.Judgement.{Finding}
use Rattle.order.specs.Questions as questions
use Rattle.slots.specs.declared.race.Racing.{Racing}
use Rattle.slots.specs.declared.table.Told.{Told}

abbrev pub found_as : Option Racing → Option Finding
found_as None = None
found_as (Some r) = Some (record { place = r.place; witness = r.witness })

abbrev pub told_as : Option Told → Option questions.Told
told_as None = None
told_as (Some r) = Some (record { serial = r.serial; reached = r.reached })
