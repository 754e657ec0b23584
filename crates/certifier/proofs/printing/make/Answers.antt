-- There is room for any certificate, so one is made and stands at the buffer's front.
use Rattle.std.proofs.Common.{subst}
use Rattle.certificate.specs.declared.call.KeeperKind.TheVariants.{Locksets}
use Rattle.certificate.specs.MadeBy.{MadeBy}
use Rattle.certificate.specs.Host.{CertifiedInto}
use Rattle.certifier.proofs.Prints.{wrote}
use Rattle.certifier.proofs.printing.make.Goals as goal

pub returns : goal.returns
returns c = wrote _ _ _ _ (subst (CertifiedInto (MadeBy Locksets c.args.bytes.now) c.args.text.now c.certify_into.new.out) c.unwrap.ensures c.certify_into.ensures.made)
