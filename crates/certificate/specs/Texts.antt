-- The text of a certificate, and what is printed of a cause. Assumes nothing.
--   run_words f, cause_words c       what the fault f of a run and the cause c mean
--   finding_text f, fault_text f     the line of a finding, and the last line where a refusal ended the run, without line feeds
--   text a fs end                    the whole text: a events accepted, the findings, and how the run ended
use Rattle.std.specs.Prelude.{ℕ, List, [], ◌∷◌, ◌++◌, length, Some, None, codes, decimal, Option}
use Rattle.roster.specs.Texts.{fault_words as rule_words}
use Rattle.trace.specs.Texts.{fault_words as trace_words}
use Rattle.certificate.specs.declared.fault.RunFault.{RunFault}
use Rattle.certificate.specs.declared.fault.RunFault.TheVariants.{TooManyFindings}
use Rattle.certificate.specs.declared.fault.Cause.{Cause}
use Rattle.certificate.specs.declared.fault.Cause.TheVariants.{Trace, Monitor, Run}
use Rattle.certificate.specs.declared.fault.Fault.{Fault}
use Rattle.certificate.specs.declared.finding.Finding.{Finding}
use Rattle.certificate.specs.Numbers.{number_of}

abbrev pub run_words : RunFault → List ℕ
run_words TooManyFindings = codes "a thousand findings are listed"

abbrev pub cause_words : Cause → List ℕ
cause_words (Trace f) = trace_words f
cause_words (Monitor f) = rule_words f
cause_words (Run f) = run_words f

abbrev pub finding_text : Finding → List ℕ
finding_text f =
    codes "event " ++ (decimal f.event ++ (codes " place " ++ (decimal f.place ++ (codes " witness " ++ decimal f.witness))))

abbrev pub fault_text : Fault → List ℕ
fault_text f =
    codes "refused " ++ (decimal (number_of f.cause) ++ (codes " section " ++ (decimal f.at.section ++ (codes " event " ++ (decimal f.at.event ++ (codes " byte " ++ decimal f.at.byte))))))

-- each finding's line, with its line feed
unfoldable pub findings_text : List Finding → List ℕ
findings_text [] = []
findings_text (f ∷ fs) = (finding_text f ++ (10 ∷ [])) ++ findings_text fs

abbrev pub last_text : List Finding → Option Fault → List ℕ
last_text fs (Some f) = fault_text f ++ (10 ∷ [])
last_text [] None = codes "clean" ++ (10 ∷ [])
last_text (f ∷ fs) None = codes "not clean" ++ (10 ∷ [])

abbrev pub first_text : ℕ → ℕ → List ℕ
first_text a d = codes "accepted " ++ (decimal a ++ (codes " declined " ++ (decimal d ++ (10 ∷ []))))

unfoldable pub text : ℕ → List Finding → Option Fault → List ℕ
text a fs end = (first_text a (length fs) ++ findings_text fs) ++ last_text fs end
