use Rattle.trace.proofs.ReadBack.{lawful_reads_back}
use Rattle.trace.proofs.theorems.writing_reads_back.Goals as goal

pub returns : goal.returns
returns c = lawful_reads_back
