-- The exit status. Assumes nothing.
--   status_of r by     of the answer r; `by` tells whether it goes by the certificate's ending
use Rattle.std.specs.Prelude.{ℕ, Bool, true, false, Ok, Err, Result}
use Rattle.certificate.specs.declared.ending.Ending.{Ending}
use Rattle.certificate.specs.declared.ending.Ending.TheVariants.{Clean, NotClean, Refused}
use Rattle.certifier.specs.declared.printing.Failure.{Failure}

-- 0 is for a clean file, 1 for one with races, 2 for one that is refused, and 3 for no certificate, or not all of one
abbrev pub by_ending : Result Ending Failure → ℕ
by_ending (Ok Clean) = 0
by_ending (Ok NotClean) = 1
by_ending (Ok Refused) = 2
by_ending (Err f) = 3

-- 0 is for a certificate, whatever it tells, and 1 for none, or not all of one
abbrev pub by_printing : Result Ending Failure → ℕ
by_printing (Ok e) = 0
by_printing (Err f) = 1

abbrev pub status_of : Result Ending Failure → Bool → ℕ
status_of r true = by_ending r
status_of r false = by_printing r
