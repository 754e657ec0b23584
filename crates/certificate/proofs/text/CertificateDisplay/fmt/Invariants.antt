use Rattle.std.proofs.Common.{take}
use Rattle.std.specs.Fmt.{HasWritten, IsPlainFormatter}
use Rattle.certificate.specs.Texts.{findings_text}
use Rattle.certificate.proofs.text.CertificateDisplay.fmt.Given as goal

-- the lines of the findings so far are written
abbrev pub invariant-loop-finding : goal.invariant-loop-finding
invariant-loop-finding g l =
    IsPlainFormatter l.initial.f → HasWritten g.W.Write.write_str_gives l.initial.f (findings_text (take l.finding-index l.self.findings.now)) l.f
