-- The promise about a monitor: what holds after every one of any list of calls. Assumes nothing.
--   after rec c r        the record after a call and its reply, taken from these alone
--   record_after rec cs rs   the record after a list of calls and their replies
--   RightReply rec c r   the reply to the call c, made after the record, is right
--   AnsweredAs cs rs x   the calls that a worked example lists are answered as it lists
--   Promise rec cs rs    each reply is right, and after each call the record is sound
use Rattle.std.specs.Prelude.{◌≡◌, List, [], ◌∷◌, map, length, IfOk}
use Rattle.events.specs.declared.Event.{Event}
use Rattle.order.specs.Examples.{Example}
use Rattle.order.specs.Judgement.{Answer, recorded}
use Rattle.monitor.specs.declared.session.Call.{Call}
use Rattle.monitor.specs.declared.session.Call.TheVariants.{Offer, Commit, Count, Ask}
use Rattle.monitor.specs.declared.session.Reply.{Reply}
use Rattle.monitor.specs.declared.session.Reply.TheVariants.{Judged, Counted, Shown}
use Rattle.monitor.specs.Answers.{told, asked, told_of}
use Rattle.monitor.specs.Shown.{RightlyTold}
use Rattle.monitor.specs.Slips.{commit_of}
use Rattle.monitor.specs.Sound.{RightVerdict, Sound}

abbrev pub after_event : List Event → Event → Reply → List Event
after_event rec e (Judged v) = recorded rec e (told v)
after_event rec e (Counted n) = rec
after_event rec e (Shown x) = rec

abbrev pub after : List Event → Call → Reply → List Event
after rec (Offer e) r = after_event rec e r
after rec (Commit s) r = after_event rec (commit_of s) r
after rec Count r = rec
after rec (Ask q) r = rec

unfoldable pub record_after : List Event → List Call → List Reply → List Event
record_after rec [] rs = rec
record_after rec (c ∷ cs) [] = rec
record_after rec (c ∷ cs) (r ∷ rs) = record_after (after rec c r) cs rs

abbrev pub RightReply : List Event → Call → Reply → Type 0
RightReply rec (Offer e) (Judged v) = RightVerdict rec e (told v)
RightReply rec (Offer e) (Counted n) = ⊥
RightReply rec (Offer e) (Shown x) = ⊥
RightReply rec (Commit s) (Judged v) = RightVerdict rec (commit_of s) (told v)
RightReply rec (Commit s) (Counted n) = ⊥
RightReply rec (Commit s) (Shown x) = ⊥
RightReply rec Count (Counted n) = n ≡ length rec
RightReply rec Count (Judged v) = ⊥
RightReply rec Count (Shown x) = ⊥
RightReply rec (Ask q) (Shown x) = (told_of x ≡ asked rec q.place q.access q.thread) × IfOk x (λ o. RightlyTold rec q o)
RightReply rec (Ask q) (Judged v) = ⊥
RightReply rec (Ask q) (Counted n) = ⊥

unfoldable pub Promise : List Event → List Call → List Reply → Type 0
Promise rec [] [] = Unit {0}
Promise rec [] (r ∷ rs) = ⊥
Promise rec (c ∷ cs) [] = ⊥
Promise rec (c ∷ cs) (r ∷ rs) = RightReply rec c r × Sound (after rec c r) × Promise (after rec c r) cs rs

-- the answers in replies to offered events
abbrev pub told_replies : List Reply → List Answer
told_replies [] = []
told_replies (Judged v ∷ rs) = told v ∷ told_replies rs
told_replies (Counted n ∷ rs) = told_replies rs
told_replies (Shown x ∷ rs) = told_replies rs

-- where the calls offer the events of a worked example, they are answered as it says
abbrev pub AnsweredAs : List Call → List Reply → Example → Type 0
AnsweredAs cs rs x = cs ≡ map (λ e. Offer e) x.events → told_replies rs ≡ x.answers
