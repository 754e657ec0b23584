use Rattle.std.proofs.Common.{◌≡◌, Bool, true, false, cond, ◌&&◌, Ok, Err, refl, ap, ◌∙◌}
use Rattle.std.proofs.Math.Logic.{∥∥₁_elim}
use Rattle.std.proofs.Props.{props}
use Rattle.std.specs.Result.{result_unwrap_or}
use Rattle.keepers.specs.Meaning.{is_slot, is_holder, ask_answer}
use Rattle.slots.proofs.table.Slots.holds.Goals as goal

or_false : {E : Type 0} (e : E) (b x : Bool) → result_unwrap_or {E = E} (cond b (Ok x) (Err e)) false ≡ (b && x)
or_false e true x = refl
or_false e false x = refl

pub returns : goal.returns
unfolding ask_answer
returns g c =
    let sets = (g.K.Keeper.meaning c.args.self.now.keeper).sets in
    ∥∥₁_elim c.args.self.now.lives (Prim.hlevel props) (λ live.
    c.unwrap_or.ensures ∙ ap (λ r. result_unwrap_or r false) (c.ask.ensures.answer live) ∙ or_false _ (is_slot c.args.slot && is_holder c.args.holder) (sets c.args.slot c.args.holder))
