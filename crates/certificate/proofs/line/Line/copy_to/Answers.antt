use Rattle.std.proofs.Common.{◌≡◌, length, take, ap, ◌∙◌, arith}
use Rattle.trace.proofs.Buffers.{laid_put}
use Rattle.certificate.proofs.line.Line.copy_to.Goals as goal

pub returns-clause-after : goal.returns-clause-after
returns-clause-after c =
    let long : length (take c.self.inside.count c.self.inside.bytes) ≡ length c.args.self.now = ap length c.self.view_is in
    laid_put c.args.out.now c.args.at _ c.args.self.now _ (c.copy_from_slice.ensures.after ∙ c.self.view_is) (omega arith)
