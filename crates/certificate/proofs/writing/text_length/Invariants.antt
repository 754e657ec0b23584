use Rattle.std.proofs.Common.{◌≡◌, ◌+◌, ◌*◌, ◌≤◌, length}
use Rattle.certificate.proofs.Lines.{upto}
use Rattle.certificate.proofs.writing.text_length.Given as goal

-- the lines so far, of 128 bytes at most each
abbrev pub invariant-loop-finding : goal.invariant-loop-finding
invariant-loop-finding l =
    (l.size ≡ length (upto l.certificate.accepted l.certificate.findings.now l.finding-index)) × (l.size ≤ 128 * (l.finding-index + 1))
