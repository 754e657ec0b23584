use Rattle.std.proofs.Common.{◌≡◌, ℕ, Bool, true, false, cond, not, eqb, Some, None, get_or, refl, sym, ap, ◌∙◌, arith}
use Rattle.std.specs.Bool.{then_some}
use Rattle.std.proofs.lemmas.Bool.{cond-true, cond-false, lt-ltb, le-ltb}
use Rattle.keepers.specs.Meaning.{is_slot}
use Rattle.slots.specs.Serials.{number_at, some_serial}
use Rattle.slots.proofs.serials.Serials.at.Goals as goal

then_serial : (n : ℕ) → then_some (not (eqb n 0)) n ≡ some_serial n
then_serial n = at_test (eqb n 0)
  where
    at_test : (b : Bool) → then_some (not b) n ≡ cond b None (Some n)
    at_test true = refl
    at_test false = refl

pub returns : goal.returns
unfolding number_at
returns c =
    let read = c.in_ok-serial.ensures.lookup.3 in
    let within = read.0 in
    c.then_some.ensures
    ∙ then_serial c.in_ok-serial.field-0.now
    ∙ ap some_serial (read.1 0 ∙ sym (cond-true (is_slot c.args.slot) (get_or c.args.self.now.numbers c.args.slot 0) 0 (lt-ltb c.args.slot 576 (omega arith))))

pub returns-in_err-serial : goal.returns-in_err-serial
unfolding number_at
returns-in_err-serial c =
    let beyond = c.in_err-serial.ensures.lookup.3 in
    c.from_residual.ensures ∙ sym (ap some_serial (cond-false (is_slot c.args.slot) (get_or c.args.self.now.numbers c.args.slot 0) 0 (le-ltb c.args.slot 576 (omega arith))))
