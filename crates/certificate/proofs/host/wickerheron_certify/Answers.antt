use Rattle.std.proofs.Common.{arith}
use Rattle.certificate.proofs.Hosting.{host_length, host_fault}
use Rattle.certificate.proofs.host.wickerheron_certify.Goals as goal

pub returns-in-Ok : goal.returns-in-Ok
returns-in-Ok c = host_length _ c.args.kind _ _ c.in-Ok.told (omega arith) (rw c.in-Ok.is at c.certify_as.ensures)

pub returns-in-Err : goal.returns-in-Err
returns-in-Err c = host_fault _ c.args.kind _ _ c.in-Err.fault c.number.result c.number.ensures (rw c.in-Err.is at c.certify_as.ensures)
