use Rattle.certificate.proofs.Agreeing.{agree}
use Rattle.certificate.proofs.certificate.certificates_agree.Goals as goal

pub returns : goal.returns
returns c = agree
