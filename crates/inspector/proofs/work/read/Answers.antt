use Rattle.std.proofs.Common.{◌≡◌, ◌∙◌, length, arith}
use Rattle.std.specs.declared.io.Error.{Error}
use Rattle.inspector.proofs.Printed.{gives, uses}
use Rattle.inspector.proofs.work.read.Goals as goal

pub returns-in-Err-clause-uses : goal.returns-in-Err-clause-uses
returns-in-Err-clause-uses g c =
    let long : length c.read_up_to.new.buf ≡ 65537 = c.read_up_to.auto.buf ∙ c.as_mut_slice.ensures.len ∙ c.in_ok-bytes.ensures.len in
    uses _ _ c.read_up_to.result c.read_up_to.new.buf (omega (arith, long)) c.read_up_to.ensures.fills

pub returns-in-Ok-clause-gives : goal.returns-in-Ok-clause-gives
returns-in-Ok-clause-gives g c =
    let long : length c.read_up_to.new.buf ≡ 65537 = c.read_up_to.auto.buf ∙ c.as_mut_slice.ensures.len ∙ c.in_ok-bytes.ensures.len in
    gives Error _ _ c.read_up_to.new.buf _ c.truncate.new.self.items c.in-Ok.length _ long c.in_ok-bytes.ensures.len c.in-Ok.ensures.fills c.truncate.ensures.items

pub returns-in-Ok-clause-uses : goal.returns-in-Ok-clause-uses
returns-in-Ok-clause-uses g c =
    let long : length c.read_up_to.new.buf ≡ 65537 = c.read_up_to.auto.buf ∙ c.as_mut_slice.ensures.len ∙ c.in_ok-bytes.ensures.len in
    uses _ _ c.read_up_to.result c.read_up_to.new.buf (omega (arith, long)) c.read_up_to.ensures.fills
