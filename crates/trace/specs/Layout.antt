-- Header, contents and bodies of a file, and what is refused in them. Assumes nothing.
--   count bytes           the number of sections
--   entry_offset, entry_length bytes i   the entry of section i + 1 in the contents
--   body_end bytes s      where the body of section s ends; the contents end where section 0 would
--   bad_entry bytes k i   the first of the k entries from i on that is wrong, if any
--   at_start f b          the refusal for f at byte b before the first event: section and event are 0
--   opening bytes         the refusal with which the file cannot be opened, if any
--   section_at bytes b    the section whose body holds byte b
use Rattle.std.specs.Prelude.{ℕ, zero, suc, ◌+◌, ◌*◌, Bool, cond, not, ◌&&◌, List, length, Some, None, Option, ◌==◌, nat_le, nat_lt}
use Rattle.trace.specs.declared.fault.TraceFault.{TraceFault}
use Rattle.trace.specs.declared.fault.TraceFault.TheVariants.{TooLong, Truncated, Edition, Contents}
use Rattle.trace.specs.declared.fault.Refusal.{Refusal}
use Rattle.trace.specs.Words.{word}

abbrev pub count : List ℕ → ℕ
count bytes = word 2 bytes 2

abbrev pub entry_offset : List ℕ → ℕ → ℕ
entry_offset bytes i = word 4 bytes (4 + 8 * i)

abbrev pub entry_length : List ℕ → ℕ → ℕ
entry_length bytes i = word 4 bytes (8 + 8 * i)

unfoldable pub body_end : List ℕ → ℕ → ℕ
body_end bytes zero = 4 + 8 * count bytes
body_end bytes (suc s) = body_end bytes s + entry_length bytes s

-- the body begins where the previous part ended, and does not pass the file's end
abbrev pub good_entry : List ℕ → ℕ → Bool
good_entry bytes i = entry_offset bytes i == body_end bytes i && nat_le (body_end bytes i + entry_length bytes i) (length bytes)

unfoldable pub bad_entry : List ℕ → ℕ → ℕ → Option ℕ
bad_entry bytes zero i = None
bad_entry bytes (suc k) i = cond (good_entry bytes i) (bad_entry bytes k (suc i)) (Some i)

abbrev pub at_start : TraceFault → ℕ → Refusal
at_start f b = record { fault = f; at = record { section = 0; event = 0; byte = b } }

-- the entries' refusal, or that of what follows the last body
abbrev pub entries : List ℕ → Option ℕ → Option Refusal
entries bytes (Some i) = Some (at_start Contents (4 + 8 * i))
entries bytes None = cond (nat_lt (body_end bytes (count bytes)) (length bytes)) (Some (at_start Contents (body_end bytes (count bytes)))) None

abbrev pub opening : List ℕ → Option Refusal
opening bytes =
    cond (nat_lt 65536 (length bytes)) (Some (at_start TooLong 65536)) (cond (nat_lt (length bytes) 4) (Some (at_start Truncated (length bytes))) (cond (not (word 2 bytes 0 == 1)) (Some (at_start Edition 0)) (cond (nat_lt 256 (count bytes)) (Some (at_start Contents 2)) (cond (nat_lt (length bytes) (4 + 8 * count bytes)) (Some (at_start Truncated (length bytes))) (entries bytes (bad_entry bytes (count bytes) 0))))))

-- how many of the first k sections end at or before b
unfoldable pub sections_ended : List ℕ → ℕ → ℕ → ℕ
sections_ended bytes zero b = 0
sections_ended bytes (suc k) b = sections_ended bytes k b + cond (nat_le (body_end bytes (suc k)) b) 1 0

abbrev pub section_at : List ℕ → ℕ → ℕ
section_at bytes b = 1 + sections_ended bytes (count bytes) b
