-- What is refused in a trace file, rule by rule: the first rule that applies. Assumes nothing.
--   GoodEntry bytes i        the body of section i + 1 begins where the previous part ended, and does not pass the file's end
--   Framed bytes             no rule before the entries applies: length, header, edition, number of sections, room for contents
--   FirstRefusal bytes f     f is the refusal by the first rule that applies to the file before its first event
--   Opens bytes              no such rule applies
--   InBody bytes s b         byte b lies in the body of section s
--   EventSite bytes p s      s is the site of the event at which a reader at p stands, in a file that opens
--   EventFault bytes b end k   the event at byte b, in a body that ends at `end`, is refused for k by the first rule that applies
--   EventRefusal bytes p f   f is the refusal of the event at which a reader at p stands
use Rattle.std.specs.Prelude.{◌≡◌, ℕ, ◌+◌, ◌-◌, ◌*◌, ◌<◌, ◌≤◌, List, length, ◌≢◌, slice_index}
use Rattle.trace.specs.declared.fault.TraceFault.{TraceFault}
use Rattle.trace.specs.declared.fault.TraceFault.TheVariants.{TooLong, Truncated, Edition, Contents, Kind, Overrun}
use Rattle.trace.specs.declared.fault.Site.{Site}
use Rattle.trace.specs.declared.fault.Refusal.{Refusal}
use Rattle.trace.specs.declared.place.Place.{Place}
use Rattle.trace.specs.Words.{word}
use Rattle.trace.specs.Codec.{size}
use Rattle.trace.specs.Layout.{count, entry_offset, entry_length, body_end, at_start}

pub record GoodEntry (bytes : List ℕ) (i : ℕ) : Type 0 where
  pub begins : entry_offset bytes i ≡ body_end bytes i
  pub fits : body_end bytes i + entry_length bytes i ≤ length bytes

pub record Framed (bytes : List ℕ) : Type 0 where
  pub short : length bytes ≤ 65536
  pub header : 4 ≤ length bytes
  pub edition : word 2 bytes 0 ≡ 1
  pub few : count bytes ≤ 256
  pub contents : 4 + 8 * count bytes ≤ length bytes

-- each rule with what the rules before it did not find
pub data FirstRefusal (bytes : List ℕ) (f : Refusal) : Type 0 where
  too_long : 65536 < length bytes → f ≡ at_start TooLong 65536 → FirstRefusal bytes f
  header_cut : length bytes ≤ 65536 → length bytes < 4 → f ≡ at_start Truncated (length bytes) → FirstRefusal bytes f
  other_edition : length bytes ≤ 65536 → 4 ≤ length bytes → (word 2 bytes 0 ≢ 1) → f ≡ at_start Edition 0 → FirstRefusal bytes f
  many_sections : length bytes ≤ 65536 → 4 ≤ length bytes → word 2 bytes 0 ≡ 1 → 256 < count bytes → f ≡ at_start Contents 2 → FirstRefusal bytes f
  contents_cut : length bytes ≤ 65536 → 4 ≤ length bytes → word 2 bytes 0 ≡ 1 → count bytes ≤ 256 → length bytes < 4 + 8 * count bytes → f ≡ at_start Truncated (length bytes) → FirstRefusal bytes f
  wrong_entry : Framed bytes → (i : ℕ) → i < count bytes → ((j : ℕ) → j < i → GoodEntry bytes j) → (GoodEntry bytes i → ⊥) → f ≡ at_start Contents (4 + 8 * i) → FirstRefusal bytes f
  left_over : Framed bytes → ((j : ℕ) → j < count bytes → GoodEntry bytes j) → body_end bytes (count bytes) < length bytes → f ≡ at_start Contents (body_end bytes (count bytes)) → FirstRefusal bytes f

abbrev pub Opens : List ℕ → Type 0
Opens bytes = (f : Refusal) → FirstRefusal bytes f → ⊥

-- sections count from 1, and a body begins where the one before it ended, the first where the contents end
pub record InBody (bytes : List ℕ) (s b : ℕ) : Type 0 where
  pub some : 1 ≤ s
  pub last : s ≤ count bytes
  pub from : body_end bytes (s - 1) ≤ b
  pub before : b < body_end bytes s

pub record EventSite (bytes : List ℕ) (p : Place) (s : Site) : Type 0 where
  pub opens : Opens bytes
  pub more : p.byte < length bytes
  pub section : InBody bytes s.section p.byte
  pub event : s.event ≡ p.events + 1
  pub byte : s.byte ≡ p.byte

pub data EventFault (bytes : List ℕ) (b end : ℕ) (k : TraceFault) : Type 0 where
  no_such_kind : 10 ≤ slice_index bytes b → k ≡ Kind → EventFault bytes b end k
  runs_over : slice_index bytes b < 10 → end < b + size (slice_index bytes b) → k ≡ Overrun → EventFault bytes b end k

pub record EventRefusal (bytes : List ℕ) (p : Place) (f : Refusal) : Type 0 where
  pub site : EventSite bytes p f.at
  pub fault : EventFault bytes p.byte (body_end bytes f.at.section) f.fault
