-- The monitor's answers, as the judgement has them. Assumes nothing.
--   told v             the answer that a verdict stands for
--   decided r          the answer that a decision or a refusal stands for
--   verdict_of r       the verdict that says the same
--   number v           the number of a verdict, if it is no acceptance: 10 for a decline
--   asked rec p a t    what the question about access a of place p and thread t comes to
--   told_of r          the answer that such a question's result stands for
use Rattle.std.specs.Prelude.{ℕ, ◌+◌, Bool, false, cond, ◌||◌, List, Some, None, Ok, Err, Option, Result, nat_le}
use Rattle.events.specs.declared.Event.{Event}
use Rattle.order.specs.Judgement.{Answer, accepted, refused, declined}
use Rattle.order.specs.Questions as questions
use Rattle.roster.specs.declared.fault.RuleFault.{RuleFault}
use Rattle.roster.specs.Numbers.{fault_number}
use Rattle.slots.specs.Told.{told_as}
use Rattle.slots.specs.declared.table.Told.{Told}
use Rattle.monitor.specs.declared.verdict.Access.{Access}
use Rattle.monitor.specs.declared.verdict.Access.TheVariants as access
use Rattle.monitor.specs.declared.verdict.Decision.{Decision}
use Rattle.monitor.specs.declared.verdict.Decision.TheVariants as decision
use Rattle.monitor.specs.declared.verdict.Verdict.{Verdict}
use Rattle.monitor.specs.declared.verdict.Verdict.TheVariants.{Accepted, Refused, Declined}

abbrev pub told : Verdict → Answer
told (Accepted serial) = accepted serial
told (Refused fault) = refused (fault_number fault)
told (Declined place witness) = declined place witness

abbrev pub decided : Result Decision RuleFault → Answer
decided (Ok (decision.Accepted serial)) = accepted serial
decided (Ok (decision.Declined place witness)) = declined place witness
decided (Err fault) = refused (fault_number fault)

abbrev pub verdict_of : Result Decision RuleFault → Verdict
verdict_of (Ok (decision.Accepted serial)) = Accepted serial
verdict_of (Ok (decision.Declined place witness)) = Declined place witness
verdict_of (Err fault) = Refused fault

abbrev pub number : Verdict → Option ℕ
number (Accepted serial) = None
number (Refused fault) = Some (fault_number fault)
number (Declined place witness) = Some 10

-- the slot that an access has, and whether it names a thread of 8 or more
abbrev pub slot_of : Access → ℕ
slot_of access.Write = 0
slot_of (access.Read t) = t + 1

abbrev pub no_reader : Access → Bool
no_reader access.Write = false
no_reader (access.Read t) = nat_le 8 t

abbrev pub asked : List Event → ℕ → Access → ℕ → Result (Option questions.Told) ℕ
asked rec p a t =
    cond (no_reader a || nat_le 8 t) (Err 1) (cond (nat_le 64 p) (Err 2) (Ok (questions.slot_told rec p (slot_of a) t)))

abbrev pub told_of : Result (Option Told) RuleFault → Result (Option questions.Told) ℕ
told_of (Ok o) = Ok (told_as o)
told_of (Err f) = Err (fault_number f)
