-- The number of every fault of the reader and of the writer. Assumes nothing.
use Rattle.std.specs.Prelude.{ℕ}
use Rattle.trace.specs.declared.fault.TraceFault.{TraceFault}
use Rattle.trace.specs.declared.fault.TraceFault.TheVariants.{TooLong, Truncated, Edition, Contents, Kind, Overrun}
use Rattle.trace.specs.declared.fault.Refusal.{Refusal}
use Rattle.trace.specs.declared.fault.WriteFault.{WriteFault}
use Rattle.trace.specs.declared.fault.WriteFault.TheVariants.{Counts, Oversize, NoRoom}

-- over 65,536 bytes; the file ends inside header or contents; another edition than 1; wrong contents; no such kind;
-- an event that runs over its body's end
abbrev pub number : TraceFault → ℕ
number TooLong = 12
number Truncated = 13
number Edition = 14
number Contents = 15
number Kind = 16
number Overrun = 17

-- over 256 counts, or counts that do not sum to the events; over 65,536 bytes; too small a buffer
abbrev pub write_number : WriteFault → ℕ
write_number Counts = 18
write_number Oversize = 12
write_number NoRoom = 19

-- every refusal of the reader is of the first layer, the trace file
abbrev pub layer : Refusal → ℕ
layer f = 1
