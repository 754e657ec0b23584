-- What the steps ask a monitor for. Assumes nothing.
--   slip_with t r w   the slip of the thread t with the read set r and the write set w
--   call_of s         the call that the step s asks for
--   steps_of p        the steps of the part p
--   calls_of ps       the calls that the steps of the parts ps ask for, in order
use Rattle.std.specs.Prelude.{ℕ, List, map}
use Rattle.std.specs.List.{flat_map}
use Rattle.events.specs.declared.places.PlaceSet.{PlaceSet}
use Rattle.monitor.specs.declared.session.Call.{Call}
use Rattle.monitor.specs.declared.session.Call.TheVariants as call
use Rattle.monitor.specs.declared.slip.Slip.{Slip}
use Rattle.weighings.specs.declared.steps.Step.{Step}
use Rattle.weighings.specs.declared.steps.Step.TheVariants as step
use Rattle.weighings.specs.declared.steps.Part.{Part}

abbrev pub slip_with : ℕ → PlaceSet → PlaceSet → Slip
slip_with t r w = record { thread = t; reads = r; writes = w }

abbrev pub call_of : Step → Call
call_of (step.Offer t a) = call.Offer (record { thread = t; action = a })
call_of (step.Commit t r w) = call.Commit (slip_with t r w)
call_of step.Count = call.Count
call_of (step.Ask q) = call.Ask q

abbrev pub steps_of : Part → List Step
steps_of p = p.steps.now

abbrev pub calls_of : List Part → List Call
calls_of ps = map call_of (flat_map steps_of ps)
