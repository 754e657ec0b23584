-- The number and the layer of every fault that ends a run. Assumes nothing.
use Rattle.std.specs.Prelude.{ℕ}
use Rattle.roster.specs.Numbers.{fault_number}
use Rattle.trace.specs.Numbers.{number}
use Rattle.certificate.specs.declared.fault.RunFault.TheVariants.{TooManyFindings}
use Rattle.certificate.specs.declared.fault.Cause.{Cause}
use Rattle.certificate.specs.declared.fault.Cause.TheVariants.{Trace, Monitor, Run}

-- 1 to 9 for the monitor, 11 for a decline that finds 1,000 findings listed, 12 to 17 for the file
abbrev pub number_of : Cause → ℕ
number_of (Trace f) = number f
number_of (Monitor f) = fault_number f
number_of (Run TooManyFindings) = 11

abbrev pub layer_of : Cause → ℕ
layer_of (Trace f) = 1
layer_of (Monitor f) = 2
layer_of (Run f) = 3
