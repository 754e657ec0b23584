-- What is printed of faults, sites and refusals. Assumes nothing.
--   fault_words f     what the fault f means
--   write_words f     why a trace is not written
--   site_text s       where it is
--   refusal_text f    the refusal's number and site
--   error_text e      the refusal, or that there was no memory
use Rattle.std.specs.Prelude.{ℕ, List, ◌++◌, codes, decimal}
use Rattle.trace.specs.declared.fault.TraceFault.{TraceFault}
use Rattle.trace.specs.declared.fault.TraceFault.TheVariants.{TooLong, Truncated, Edition, Contents, Kind, Overrun}
use Rattle.trace.specs.declared.fault.WriteFault.{WriteFault}
use Rattle.trace.specs.declared.fault.WriteFault.TheVariants.{Counts, Oversize, NoRoom}
use Rattle.trace.specs.declared.fault.Site.{Site}
use Rattle.trace.specs.declared.fault.Refusal.{Refusal}
use Rattle.trace.specs.declared.whole.ReadError.{ReadError}
use Rattle.trace.specs.declared.whole.ReadError.TheVariants.{Refused, Memory}
use Rattle.trace.specs.Numbers.{number}

abbrev pub fault_words : TraceFault → List ℕ
fault_words TooLong = codes "the file has more than 65536 bytes"
fault_words Truncated = codes "the file ends inside its header or contents"
fault_words Edition = codes "the edition is not 1"
fault_words Contents = codes "the contents do not fit the file"
fault_words Kind = codes "there is no such kind of event"
fault_words Overrun = codes "the event runs over the end of its section"

abbrev pub write_words : WriteFault → List ℕ
write_words Counts = codes "there are more than 256 sections, or they do not hold all events"
write_words Oversize = codes "the file would have more than 65536 bytes"
write_words NoRoom = codes "the file does not fit the buffer"

abbrev pub site_text : Site → List ℕ
site_text s = codes "section " ++ (decimal s.section ++ (codes " event " ++ (decimal s.event ++ (codes " byte " ++ decimal s.byte))))

abbrev pub refusal_text : Refusal → List ℕ
refusal_text f = codes "refused " ++ (decimal (number f.fault) ++ (codes " " ++ site_text f.at))

abbrev pub error_text : ReadError → List ℕ
error_text (Refused f) = refusal_text f
error_text Memory = codes "no memory"
