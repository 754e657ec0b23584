-- What was read is the source's first bytes; their certificate is that of all, and it or a front of it was written.
use Rattle.std.proofs.Common.{◌≡◌, Ok, length, take, rules}
use Rattle.certifier.proofs.Prints.{Filled, filled, uses_first, certifies_all}
use Rattle.certifier.proofs.printing.certify.Given as given
use Rattle.certifier.proofs.printing.certify.Goals as goal

printed : (g : given.Over) (c : goal.In-Ok g) → Filled (g.S.Source.remaining c.args.input.now) (g.S.Source.remaining c.read_up_to.new.source) c.read_up_to.new.buf c.in_ok-length.length
printed g c =
    let is : c.read_up_to.result ≡ Ok c.in_ok-length.length = search rules in
    let long : length c.read_up_to.new.buf ≡ 65537 = search rules in
    filled _ _ _ _ _ is long c.read_up_to.ensures.fills

broken_off : (g : given.Over) (c : goal.In-Err g) → Filled (g.S.Source.remaining c.args.input.now) (g.S.Source.remaining c.read_up_to.new.source) c.read_up_to.new.buf c.in_ok-length.length
broken_off g c =
    let is : c.read_up_to.result ≡ Ok c.in_ok-length.length = search rules in
    let long : length c.read_up_to.new.buf ≡ 65537 = search rules in
    filled _ _ _ _ _ is long c.read_up_to.ensures.fills

pub returns-in-Ok-clause-prints : goal.returns-in-Ok-clause-prints
returns-in-Ok-clause-prints g c = record {
  text = take c.make-made.result.length c.make-made.new.text;
  certifies = certifies_all _ _ _ _ _ (printed g c) c.make-made.ensures.made;
  ends = c.make-made.ensures.ends;
  appended = c.in-Ok.ensures.writes;
}

pub returns-in-Ok-clause-uses : goal.returns-in-Ok-clause-uses
returns-in-Ok-clause-uses g c = uses_first _ _ _ _ (printed g c)

pub returns-in-Err-clause-leaves : goal.returns-in-Err-clause-leaves
returns-in-Err-clause-leaves g c = (take c.make-made.result.length c.make-made.new.text, certifies_all _ _ _ _ _ (broken_off g c) c.make-made.ensures.made, c.in-Err.ensures.writes)

pub returns-in-Err-clause-uses : goal.returns-in-Err-clause-uses
returns-in-Err-clause-uses g c = uses_first _ _ _ _ (broken_off g c)
