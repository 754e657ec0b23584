use Rattle.std.proofs.Common.{arith}
use Rattle.certificate.proofs.LastLines.{ends_clean, ends_racy, ends_refused}
use Rattle.certificate.proofs.text.Certificate.ending.Goals as goal

pub returns-in-Some-default : goal.returns-in-Some-default
returns-in-Some-default c = ends_refused _ _ _ _ c.in-Some-default.is-0

pub returns-in-None-empty : goal.returns-in-None-empty
returns-in-None-empty c = ends_clean _ _ _ (omega arith) c.in-None-empty.is-0

pub returns-in-None-default : goal.returns-in-None-default
returns-in-None-default c = ends_racy _ _ _ (omega arith) c.in-None-default.is-0
