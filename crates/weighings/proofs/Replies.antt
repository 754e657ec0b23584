-- The monitor's promise to a list of calls leaves one list of replies. Assumes nothing.
use Rattle.std.proofs.Common.{◌≡◌, ℕ, List, [], ◌∷◌, length, Ok, Err, None, Some, Option, Result, cond, ◌==◌, IfOk, refl, sym, ap, ◌∙◌, subst}
use Rattle.events.specs.declared.Event.{Event}
use Rattle.order.specs.Judgement.{Answer, accepted, refused, declined, judge}
use Rattle.order.specs.Questions as questions
use Rattle.roster.specs.declared.fault.RuleFault.{RuleFault}
use Rattle.roster.specs.declared.fault.RuleFault.TheVariants.{NoSuchThread, NoSuchThing, NotRunning, ForkedBefore, JoinsAmiss, LockHeld, LockNotHeld, JoinedHolds, RecordFull}
use Rattle.roster.specs.Numbers.{fault_number}
use Rattle.slots.specs.declared.table.Told.{Told}
use Rattle.monitor.specs.declared.session.Call.{Call}
use Rattle.monitor.specs.declared.session.Call.TheVariants.{Offer, Commit, Count, Ask}
use Rattle.monitor.specs.declared.session.Reply.{Reply}
use Rattle.monitor.specs.declared.session.Reply.TheVariants.{Judged, Counted, Shown}
use Rattle.monitor.specs.declared.verdict.Verdict.{Verdict}
use Rattle.monitor.specs.declared.verdict.Verdict.TheVariants.{Accepted, Refused, Declined}
use Rattle.monitor.specs.Answers.{told, asked, told_of}
use Rattle.monitor.specs.Promise.{RightReply, after, Promise}
use Rattle.monitor.specs.Slips.{commit_of}
use Rattle.weighings.specs.declared.steps.Part.{Part}
use Rattle.weighings.specs.Shown.{Tells}
use Rattle.weighings.specs.Steps.{calls_of}
use Rattle.weighings.specs.Texts.{demo_text}

-- the fault that a number names, the verdict that an answer comes from, and what a question's answer comes from
abbrev fault_of : ℕ → RuleFault
fault_of n =
    cond (n == 1) NoSuchThread (cond (n == 2) NoSuchThing (cond (n == 3) NotRunning (cond (n == 4) ForkedBefore (cond (n == 5) JoinsAmiss (cond (n == 6) LockHeld (cond (n == 7) LockNotHeld (cond (n == 8) JoinedHolds RecordFull)))))))

fault_back : (f : RuleFault) → f ≡ fault_of (fault_number f)
fault_back NoSuchThread = refl
fault_back NoSuchThing = refl
fault_back NotRunning = refl
fault_back ForkedBefore = refl
fault_back JoinsAmiss = refl
fault_back LockHeld = refl
fault_back LockNotHeld = refl
fault_back JoinedHolds = refl
fault_back RecordFull = refl

abbrev verdict_of : Answer → Verdict
verdict_of (accepted serial) = Accepted serial
verdict_of (refused n) = Refused (fault_of n)
verdict_of (declined p w) = Declined p w

verdict_back : (v : Verdict) → v ≡ verdict_of (told v)
verdict_back (Accepted serial) = refl
verdict_back (Refused f) = ap Refused (fault_back f)
verdict_back (Declined p w) = refl

abbrev shown_of : Result (Option questions.Told) ℕ → Result (Option Told) RuleFault
shown_of (Ok None) = Ok None
shown_of (Ok (Some t)) = Ok (Some (record { serial = t.serial; reached = t.reached }))
shown_of (Err n) = Err (fault_of n)

shown_back : (x : Result (Option Told) RuleFault) → x ≡ shown_of (told_of x)
shown_back (Ok None) = refl
shown_back (Ok (Some t)) = refl
shown_back (Err f) = ap Err (fault_back f)

-- the right reply to a call
abbrev reply_to : List Event → Call → Reply
reply_to rec (Offer e) = Judged (verdict_of (judge rec e))
reply_to rec (Commit s) = Judged (verdict_of (judge rec (commit_of s)))
reply_to rec Count = Counted (length rec)
reply_to rec (Ask q) = Shown (shown_of (asked rec q.place q.access q.thread))

right_is : (rec : List Event) (c : Call) (r : Reply) → RightReply rec c r → r ≡ reply_to rec c
right_is rec (Offer e) (Judged v) h = ap Judged (verdict_back v ∙ ap verdict_of h.judged)
right_is rec (Offer e) (Counted n) h = absurd h
right_is rec (Offer e) (Shown x) h = absurd h
right_is rec (Commit s) (Judged v) h = ap Judged (verdict_back v ∙ ap verdict_of h.judged)
right_is rec (Commit s) (Counted n) h = absurd h
right_is rec (Commit s) (Shown x) h = absurd h
right_is rec Count (Judged v) h = absurd h
right_is rec Count (Counted n) h = ap Counted h
right_is rec Count (Shown x) h = absurd h
right_is rec (Ask q) (Judged v) h = absurd h
right_is rec (Ask q) (Counted n) h = absurd h
right_is rec (Ask q) (Shown x) h = ap Shown (shown_back x ∙ ap shown_of h.0)

pub one_promised : (rec : List Event) (cs : List Call) (rs ss : List Reply) → Promise rec cs rs → Promise rec cs ss → ss ≡ rs
unfolding Promise
one_promised rec [] [] [] p q = refl
one_promised rec [] [] (s ∷ ss) p q = absurd q
one_promised rec [] (r ∷ rs) ss p q = absurd p
one_promised rec (c ∷ cs) [] ss p q = absurd p
one_promised rec (c ∷ cs) (r ∷ rs) [] p q = absurd q
one_promised rec (c ∷ cs) (r ∷ rs) (s ∷ ss) p q =
    let first : s ≡ r = right_is rec c s q.0 ∙ sym (right_is rec c r p.0) in
    let others = one_promised (after rec c r) cs rs ss p.2 (subst (λ x. Promise (after rec c x) cs ss) first q.2) in
    (λ i. first i ∷ others i)

-- a text of replies that keep the promise tells of the only ones
pub tells_if : {A E : Type 0} (ps : List Part) (rs : List Reply) (bytes : A → List ℕ) (r : Result A E) → Promise [] (calls_of ps) rs → IfOk r (λ t. bytes t ≡ demo_text ps rs) → IfOk r (λ t. Tells ps (bytes t))
tells_if ps rs bytes (Ok t) kept is = record { replies = rs; right = kept; only = λ others p. one_promised [] (calls_of ps) rs others kept p; is = is }
tells_if ps rs bytes (Err e) kept is = tt
