use Rattle.std.proofs.Common.{◌+◌, ◌++◌, length, ap, ◌∙◌, arith}
use Rattle.std.proofs.lemmas.List.{length-append}
use Rattle.trace.specs.File.{laid}
use Rattle.trace.proofs.Buffers.{laid_more, laid_first, length_laid}
use Rattle.certificate.proofs.Lines.{upto, upto_none, upto_more, upto_all, upto_fits}
use Rattle.certificate.proofs.writing.put_text.Goals as goal

pub copy_to-at-requires : goal.copy_to-at-requires
copy_to-at-requires c =
    let first = ap length (c.first_line.ensures ∙ upto_none c.args.certificate.now.accepted c.args.certificate.now.findings.now) in
    let fits = upto_fits c.args.certificate.now.accepted c.args.certificate.now.findings.now 0 c.args.certificate.now.end in
    omega arith

pub loop-finding-init : goal.loop-finding-init
loop-finding-init c =
    let first = c.first_line.ensures ∙ upto_none c.args.certificate.now.accepted c.args.certificate.now.findings.now in
    let long = ap length first in
    (omega arith, c.copy_to-at.ensures.after ∙ ap (laid c.args.out.now 0) first)

pub copy_to-at-requires-in-loop-finding : goal.copy_to-at-requires-in-loop-finding
copy_to-at-requires-in-loop-finding c =
    let a = c.args.certificate.now.accepted in
    let fs = c.args.certificate.now.findings.now in
    let i = c.loop-finding.finding-index in
    let sofar = upto a fs i in
    let within = upto_fits a fs i c.args.certificate.now.end in
    let room = ap length c.loop-finding.invariant.1 ∙ length_laid c.args.out.now 0 sofar (omega arith) in
    let more = ap length (ap (λ l. sofar ++ l) c.finding_line.ensures ∙ upto_more a fs i _ c.loop-finding-test.true) in
    let long = length-append sofar c.finding_line.result in
    let fits = upto_fits a fs (i + 1) c.args.certificate.now.end in
    omega arith

pub loop-finding-preserved : goal.loop-finding-preserved
loop-finding-preserved c =
    let inv = c.loop-finding.invariant in
    let sofar = upto c.args.certificate.now.accepted c.args.certificate.now.findings.now c.loop-finding.finding-index in
    let line = c.finding_line.result in
    let more = ap (λ l. sofar ++ l) c.finding_line.ensures ∙ upto_more c.args.certificate.now.accepted c.args.certificate.now.findings.now c.loop-finding.finding-index _ c.loop-finding-test.true in
    let longer = ap length more in
    let long = length-append sofar line in
    (omega arith, c.copy_to-at-in-loop-finding.ensures.after ∙ ap (λ d. laid d c.loop-finding.at line) inv.1 ∙ laid_more c.args.out.now 0 c.loop-finding.at sofar line (omega arith) (omega arith) ∙ ap (laid c.args.out.now 0) more)

pub copy_to-requires : goal.copy_to-requires
copy_to-requires c =
    let a = c.args.certificate.now.accepted in
    let fs = c.args.certificate.now.findings.now in
    let i = c.loop-finding.finding-index in
    let sofar = upto a fs i in
    let within = upto_fits a fs i c.args.certificate.now.end in
    let room = ap length c.loop-finding.invariant.1 ∙ length_laid c.args.out.now 0 sofar (omega arith) in
    let whole = ap length (ap (λ l. sofar ++ l) c.last_line.ensures ∙ upto_all a fs i c.args.certificate.now.end c.loop-finding-test.false) in
    let long = length-append sofar c.last_line.result in
    omega arith

pub returns : goal.returns
returns c =
    let inv = c.loop-finding.invariant in
    let sofar = upto c.args.certificate.now.accepted c.args.certificate.now.findings.now c.loop-finding.finding-index in
    let last = c.last_line.result in
    let whole = ap (λ l. sofar ++ l) c.last_line.ensures ∙ upto_all c.args.certificate.now.accepted c.args.certificate.now.findings.now c.loop-finding.finding-index c.args.certificate.now.end c.loop-finding-test.false in
    c.copy_to.ensures.after ∙ ap (λ d. laid d c.loop-finding.at last) inv.1 ∙ laid_more c.args.out.now 0 c.loop-finding.at sofar last (omega arith) (omega arith) ∙ ap (laid c.args.out.now 0) whole ∙ laid_first c.args.out.now _
