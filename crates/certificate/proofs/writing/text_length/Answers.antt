use Rattle.std.proofs.Common.{◌++◌, length, ap, ◌∙◌, arith}
use Rattle.std.proofs.lemmas.List.{length-append}
use Rattle.certificate.proofs.Lines.{upto, upto_none, upto_more, upto_all}
use Rattle.certificate.proofs.writing.text_length.Goals as goal

pub loop-finding-init : goal.loop-finding-init
loop-finding-init c =
    (c.len-size.ensures.value ∙ ap length (c.first_line.ensures ∙ upto_none c.args.certificate.now.accepted c.args.certificate.now.findings.now), omega arith)

pub loop-finding-preserved : goal.loop-finding-preserved
loop-finding-preserved c =
    let sofar = upto c.args.certificate.now.accepted c.args.certificate.now.findings.now c.loop-finding.finding-index in
    let more = ap length (ap (λ l. sofar ++ l) c.finding_line.ensures ∙ upto_more c.args.certificate.now.accepted c.args.certificate.now.findings.now c.loop-finding.finding-index _ c.loop-finding-test.true) in
    let long = length-append sofar c.finding_line.result in
    (omega arith, omega arith)

pub returns : goal.returns
returns c =
    let sofar = upto c.args.certificate.now.accepted c.args.certificate.now.findings.now c.loop-finding.finding-index in
    let whole = ap length (ap (λ l. sofar ++ l) c.last_line.ensures ∙ upto_all c.args.certificate.now.accepted c.args.certificate.now.findings.now c.loop-finding.finding-index c.args.certificate.now.end c.loop-finding-test.false) in
    let long = length-append sofar c.last_line.result in
    omega arith
