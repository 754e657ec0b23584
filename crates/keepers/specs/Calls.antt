-- What a list of calls comes to on a keeper that was cleared. Assumes nothing.
--
-- answer_to m c      what call c answers at meaning m          after m c       the meaning after it
-- answers_to m cs    the answers to a list of calls, in order  after_all m cs  the meaning after them
use Rattle.std.specs.Prelude.{Bool, List, [], ◌∷◌, Ok, Err, Result}
use Rattle.keepers.specs.declared.calls.KeeperAnswer.{KeeperAnswer}
use Rattle.keepers.specs.declared.calls.KeeperAnswer.TheVariants.{Done, Refused, Holds, Passes}
use Rattle.keepers.specs.declared.calls.KeeperCall.{KeeperCall}
use Rattle.keepers.specs.declared.calls.KeeperCall.TheVariants.{Clear, Begin, Forget, Pass, Ask, Count}
use Rattle.keepers.specs.declared.fault.KeeperFault.{KeeperFault}
use Rattle.keepers.specs.Meaning.{Meaning, cleared, begun, forgotten, passed}
use Rattle.keepers.specs.Meaning.{begin_answer, forget_answer, pass_answer, ask_answer}

abbrev pub done_or : Result (Unit {0}) KeeperFault → KeeperAnswer
done_or (Ok x) = Done
done_or (Err e) = Refused e

abbrev pub held_or : Result Bool KeeperFault → KeeperAnswer
held_or (Ok b) = Holds b
held_or (Err e) = Refused e

abbrev pub answer_to : Meaning → KeeperCall → KeeperAnswer
answer_to m Clear = Done
answer_to m (Begin slot thread) = done_or (begin_answer slot thread)
answer_to m (Forget slot) = done_or (forget_answer slot)
answer_to m (Pass from to) = done_or (pass_answer m from to)
answer_to m (Ask slot holder) = held_or (ask_answer m slot holder)
answer_to m Count = Passes m.passes

abbrev pub after : Meaning → KeeperCall → Meaning
after m Clear = cleared
after m (Begin slot thread) = begun m slot thread
after m (Forget slot) = forgotten m slot
after m (Pass from to) = passed m from to
after m (Ask slot holder) = m
after m Count = m

abbrev pub answers_to : Meaning → List KeeperCall → List KeeperAnswer
answers_to m [] = []
answers_to m (c ∷ cs) = answer_to m c ∷ answers_to (after m c) cs

abbrev pub after_all : Meaning → List KeeperCall → Meaning
after_all m [] = m
after_all m (c ∷ cs) = after_all (after m c) cs
