use Rattle.std.proofs.Common.{refl, ap, sym, arith}
use Rattle.certificate.specs.Texts.{last_text}
use Rattle.certificate.proofs.Lines.{last_clean, last_not_clean, written_none, written_more, written_text}
use Rattle.certificate.proofs.text.CertificateDisplay.fmt.Goals as goal

pub loop-finding-init : goal.loop-finding-init
loop-finding-init g c = written_none g.W.Write.write_str_gives _

pub loop-finding-preserved : goal.loop-finding-preserved
loop-finding-preserved g c = λ p.
    let sofar = c.loop-finding.invariant p in
    written_more g.W.Write.write_str_gives _ _ _ c.args.self.now.findings.now c.loop-finding.finding-index _ (omega arith) sofar (c.in_ok-writeln-2.ensures.writes sofar.plain refl)

pub returns-in-Some-default-clause-writes : goal.returns-in-Some-default-clause-writes
returns-in-Some-default-clause-writes g c = λ p ok.
    let first = c.in_ok-writeln.ensures.writes p refl in
    let lines = c.loop-finding.invariant first.plain in
    written_text g.W.Write.write_str_gives _ _ _ _ _ c.args.self.now.findings.now _ _ _ (omega arith) first lines (c.writeln-in-Some-default.ensures.writes lines.plain ok) (sym (ap (last_text c.args.self.now.findings.now) c.in-Some-default.is-0))

pub returns-in-None-empty-clause-writes : goal.returns-in-None-empty-clause-writes
returns-in-None-empty-clause-writes g c = λ p ok.
    let first = c.in_ok-writeln.ensures.writes p refl in
    let lines = c.loop-finding.invariant first.plain in
    written_text g.W.Write.write_str_gives _ _ _ _ _ c.args.self.now.findings.now _ _ _ (omega arith) first lines (c.writeln-in-None-empty.ensures.writes lines.plain ok) (last_clean _ _ (omega arith) c.in-None-empty.is-0)

pub returns-in-None-default-clause-writes : goal.returns-in-None-default-clause-writes
returns-in-None-default-clause-writes g c = λ p ok.
    let first = c.in_ok-writeln.ensures.writes p refl in
    let lines = c.loop-finding.invariant first.plain in
    written_text g.W.Write.write_str_gives _ _ _ _ _ c.args.self.now.findings.now _ _ _ (omega arith) first lines (c.writeln-in-None-default.ensures.writes lines.plain ok) (last_not_clean _ _ (omega arith) c.in-None-default.is-0)
