-- What is printed of a step, of the reply to it, and of parts with the replies to their steps. Assumes nothing.
--   places_text ps, set_text s   the places ps, or those of the set s, as `place 6, place 7`, or `nothing`
--   question_text q     whose access of a place the question q is about (`access_text`), and whom it is to have reached
--   slip_text r w       a commit's slip with the read set r and the write set w
--   step_text s         what the step s asks for
--   refusal_text f      a refusal with the fault f, its number and what it means
--   verdict_text v, shown_text x   the verdict v on an event, and what a question comes to
--   reply_text r        the reply r
--   line_text (s, r)    the line of the step s with the reply r, with its line feed
--   part_text p rs      the title of the part p, and a line for each of its steps, with the replies rs
--   demo_text ps rs     the parts ps one after another, each with the next of the replies rs
use Rattle.std.specs.Prelude.{ℕ, Bool, true, false, List, [], ◌∷◌, ◌++◌, length, drop, Some, None, Ok, Err, Option, Result, codes, decimal}
use Rattle.std.specs.List.{flat_map, zip}
use Rattle.events.specs.declared.places.PlaceSet.{PlaceSet}
use Rattle.events.specs.Places.{member, those_below}
use Rattle.events.specs.Texts.{action_text}
use Rattle.roster.specs.declared.fault.RuleFault.{RuleFault}
use Rattle.roster.specs.Numbers.{fault_number}
use Rattle.roster.specs.Texts.{fault_words}
use Rattle.slots.specs.declared.table.Told.{Told}
use Rattle.monitor.specs.declared.session.Reply.{Reply}
use Rattle.monitor.specs.declared.session.Reply.TheVariants.{Judged, Counted, Shown}
use Rattle.monitor.specs.declared.verdict.Access.{Access}
use Rattle.monitor.specs.declared.verdict.Access.TheVariants as access
use Rattle.monitor.specs.declared.verdict.Question.{Question}
use Rattle.monitor.specs.declared.verdict.Verdict.{Verdict}
use Rattle.monitor.specs.declared.verdict.Verdict.TheVariants.{Accepted, Refused, Declined}
use Rattle.weighings.specs.declared.steps.Part.{Part}
use Rattle.weighings.specs.declared.steps.Step.{Step}
use Rattle.weighings.specs.declared.steps.Step.TheVariants.{Offer, Commit, Count, Ask}

abbrev pub after_comma : ℕ → List ℕ
after_comma p = codes ", place " ++ decimal p

abbrev pub places_text : List ℕ → List ℕ
places_text [] = codes "nothing"
places_text (p ∷ ps) = (codes "place " ++ decimal p) ++ flat_map after_comma ps

abbrev pub set_text : PlaceSet → List ℕ
set_text s = places_text (those_below 64 (member s.word))

abbrev pub access_text : ℕ → Access → List ℕ
access_text p access.Write = codes "has the latest write of place " ++ decimal p
access_text p (access.Read t) =
    codes "has the latest read of place " ++ (decimal p ++ (codes " by thread " ++ decimal t))

abbrev pub question_text : Question → List ℕ
question_text q = access_text q.place q.access ++ (codes " reached thread " ++ (decimal q.thread ++ codes "?"))

abbrev pub slip_text : PlaceSet → PlaceSet → List ℕ
slip_text r w =
    codes " commits a slip that reads " ++ (set_text r ++ (codes " and writes " ++ (set_text w ++ codes ":")))

abbrev pub step_text : Step → List ℕ
step_text (Offer t a) = codes "thread " ++ (decimal t ++ (codes " " ++ (action_text a ++ codes ":")))
step_text (Commit t r w) = codes "thread " ++ (decimal t ++ slip_text r w)
step_text Count = codes "how many events are accepted?"
step_text (Ask q) = question_text q

abbrev pub refusal_text : RuleFault → List ℕ
refusal_text f = codes "refused with " ++ (decimal (fault_number f) ++ (codes ", " ++ fault_words f))

abbrev pub verdict_text : Verdict → List ℕ
verdict_text (Accepted serial) = codes "accepted as event " ++ decimal serial
verdict_text (Declined p w) = codes "declined, a race at place " ++ (decimal p ++ (codes " with event " ++ decimal w))
verdict_text (Refused f) = refusal_text f

abbrev pub reached_text : Bool → List ℕ
reached_text true = codes "yes"
reached_text false = codes "no"

abbrev pub shown_text : Result (Option Told) RuleFault → List ℕ
shown_text (Ok None) = codes "there is none"
shown_text (Ok (Some t)) = reached_text t.reached ++ (codes ", it is event " ++ decimal t.serial)
shown_text (Err f) = refusal_text f

abbrev pub reply_text : Reply → List ℕ
reply_text (Judged v) = verdict_text v
reply_text (Counted n) = decimal n
reply_text (Shown x) = shown_text x

abbrev pub line_text : Step × Reply → List ℕ
line_text l = codes "  " ++ (step_text l.0 ++ (codes " " ++ (reply_text l.1 ++ (10 ∷ []))))

unfoldable pub part_text : Part → List Reply → List ℕ
part_text p rs = (p.title.now ++ (10 ∷ [])) ++ flat_map line_text (zip p.steps.now rs)

unfoldable pub demo_text : List Part → List Reply → List ℕ
demo_text [] rs = []
demo_text (p ∷ ps) rs = part_text p rs ++ demo_text ps (drop (length p.steps.now) rs)
