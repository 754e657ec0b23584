-- A list of calls, answered one after another. Assumes nothing.
use Rattle.std.specs.List.{AllByRecursion}
use Rattle.std.proofs.Common.{◌≡◌, List, [], ◌∷◌, ◌++◌, map, sym, refl, ap, ◌∙◌, subst}
use Rattle.std.proofs.lemmas.List.{append-nil, append_assoc}
use Rattle.std.proofs.ByRecursion.{All-weaker}
use Rattle.events.specs.declared.Event.{Event}
use Rattle.keepers.specs.declared.keeper.Keeper.{Ghosts}
use Rattle.order.specs.Examples.{answers, examples}
use Rattle.order.specs.Judgement.{recorded}
use Rattle.order.proofs.Examples.{as_worked}
use Rattle.monitor.specs.declared.monitor.Monitor.{Monitor}
use Rattle.monitor.specs.declared.session.Call.{Call}
use Rattle.monitor.specs.declared.session.Call.TheVariants.{Offer}
use Rattle.monitor.specs.declared.session.Reply.{Reply}
use Rattle.monitor.specs.declared.session.Reply.TheVariants.{Judged, Counted, Shown}
use Rattle.monitor.specs.Answers.{told}
use Rattle.monitor.specs.Stands.{Stands}
use Rattle.monitor.specs.Promise.{RightReply, after, record_after, Promise, told_replies, AnsweredAs}
use Rattle.monitor.specs.Sound.{Sound}
use Rattle.monitor.proofs.Soundness.{sound_from}

record_push : (rec : List Event) (cs : List Call) (rs : List Reply) (c : Call) (r : Reply) → Promise rec cs rs → record_after rec (cs ++ (c ∷ [])) (rs ++ (r ∷ [])) ≡ after (record_after rec cs rs) c r
unfolding Promise record_after
record_push rec [] [] c r p = refl
record_push rec [] (s ∷ rs) c r p = absurd p
record_push rec (d ∷ cs) [] c r p = absurd p
record_push rec (d ∷ cs) (s ∷ rs) c r p = record_push (after rec d s) cs rs c r p.2

promise_push : (rec : List Event) (cs : List Call) (rs : List Reply) (c : Call) (r : Reply) → Promise rec cs rs → RightReply (record_after rec cs rs) c r → Sound (after (record_after rec cs rs) c r) → Promise rec (cs ++ (c ∷ [])) (rs ++ (r ∷ []))
unfolding Promise record_after
promise_push rec [] [] c r p right s = (right, s, tt)
promise_push rec [] (x ∷ rs) c r p right s = absurd p
promise_push rec (d ∷ cs) [] c r p right s = absurd p
promise_push rec (d ∷ cs) (x ∷ rs) c r p right s = (p.0, p.1, promise_push (after rec d x) cs rs c r p.2 right s)

-- of all calls some are made and the rest are left; the monitor stands for the record of those that are made
pub record Sofar {K : Type 0} {its : Ghosts K} (all rest : List Call) (rs : List Reply) (m : Monitor K its) : Type 0 where
  pub made : List Call
  pub split : all ≡ made ++ rest
  pub promise : Promise [] made rs
  pub stands : Stands (record_after [] made rs) m

pub sofar_none : {K : Type 0} {its : Ghosts K} (all : List Call) (rs : List Reply) (m : Monitor K its) → rs ≡ [] → Stands [] m → Sofar all all rs m
unfolding Promise record_after
sofar_none all rs m none stands = record { made = []; split = refl; promise = subst (Promise [] []) (sym none) tt; stands = stands }

module _ {K : Type 0} {its : Ghosts K} {all rest : List Call} {rs : List Reply} {m : Monitor K its} (sofar : Sofar all rest rs m) where
  pub sofar_more : (rest' : List Call) (rs' : List Reply) (m' : Monitor K its) (c : Call) (r : Reply) → rest ≡ c ∷ rest' → rs' ≡ rs ++ (r ∷ []) → ((rec : List Event) → Stands rec m → RightReply rec c r × Stands (after rec c r) m') → Sofar all rest' rs' m'
  sofar_more rest' rs' m' c r first push call =
      let step = call (record_after [] sofar.made rs) sofar.stands in
      record {
        made = sofar.made ++ (c ∷ []);
        split = sofar.split ∙ ap (λ l. sofar.made ++ l) first ∙ sym (append_assoc sofar.made (c ∷ []) rest');
        promise = subst (Promise [] (sofar.made ++ (c ∷ []))) (sym push) (promise_push [] sofar.made rs c r sofar.promise step.0 (sound_from _ step.1.lawful step.1.free));
        stands = subst (λ l. Stands l m') (sym (ap (record_after [] (sofar.made ++ (c ∷ []))) push ∙ record_push [] sofar.made rs c r sofar.promise)) step.1;
      }

  pub sofar_all : rest ≡ [] → Promise [] all rs × Stands (record_after [] all rs) m
  sofar_all none =
      let whole = sofar.split ∙ ap (λ l. sofar.made ++ l) none ∙ append-nil sofar.made in
      (subst (λ l. Promise [] l rs) (sym whole) sofar.promise, subst (λ l. Stands (record_after [] l rs) m) (sym whole) sofar.stands)

-- offered events are answered by the judgement, one after another
promise_answers : (rec : List Event) (es : List Event) (rs : List Reply) → Promise rec (map (λ e. Offer e) es) rs → told_replies rs ≡ answers rec es
unfolding Promise answers
promise_answers rec [] [] p = refl
promise_answers rec [] (r ∷ rs) p = absurd p
promise_answers rec (e ∷ es) [] p = absurd p
promise_answers rec (e ∷ es) (Judged v ∷ rs) p =
    ap (λ l. told v ∷ l) (promise_answers (recorded rec e (told v)) es rs p.2) ∙ ap (λ a. a ∷ answers (recorded rec e a) es) p.0.judged
promise_answers rec (e ∷ es) (Counted n ∷ rs) p = absurd p.0
promise_answers rec (e ∷ es) (Shown x ∷ rs) p = absurd p.0

-- the worked examples, made by such calls, are answered as they say
pub examples_answered : (cs : List Call) (rs : List Reply) → Promise [] cs rs → AllByRecursion (AnsweredAs cs rs) examples
examples_answered cs rs p =
    All-weaker (λ x. answers [] x.events ≡ x.answers) (AnsweredAs cs rs) (λ x h same. promise_answers [] x.events rs (subst (λ l. Promise [] l rs) same p) ∙ h) examples as_worked
