use Rattle.std.proofs.Common.{◌≡◌, length}
use Rattle.trace.specs.File.{laid}
use Rattle.certificate.proofs.Lines.{upto}
use Rattle.certificate.proofs.writing.put_text.Given as goal

-- the lines so far stand at the front of the buffer
abbrev pub invariant-loop-finding : goal.invariant-loop-finding
invariant-loop-finding l =
    let sofar = upto l.certificate.accepted l.certificate.findings.now l.finding-index in
    (l.at ≡ length sofar) × (l.out ≡ laid l.fn.out 0 sofar)
