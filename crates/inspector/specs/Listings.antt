-- What is listed of a file, by what it holds. Assumes nothing.
--   event_line n b e          event number n of the file, which begins at byte b
--   event_lines n b events    a line for each of these events, which stand one behind another
--   sections_text s n b counts events   for each section, from section s on, its heading and its events' lines
--   refusal_line f            the refusal and its sentence
--   events_line n s           how many events and sections there are
--   written_line l            that writing them gives the same bytes again, and how many
--   ending bytes counts events end      how the listing ends: with the refusal, or with these two lines
--   listing bytes counts events end     the whole text
--   IsListing bytes t         t is the text of what the file holds, up to its refusal, or up to its end; the file
--                             is then the encoding of just that
use Rattle.std.specs.Prelude.{◌≡◌, ℕ, ◌+◌, ◌*◌, List, [], ◌∷◌, ◌++◌}
use Rattle.std.specs.Prelude.{length, take, drop, Some, None, Option, IfNone, codes, decimal}
use Rattle.events.specs.declared.Event.{Event}
use Rattle.events.specs.Texts.{event_text}
use Rattle.trace.specs.declared.fault.Refusal.{Refusal}
use Rattle.trace.specs.Codec.{event_bytes}
use Rattle.trace.specs.File.{body, file}
use Rattle.trace.specs.Fronts.{IsFrontOf}
use Rattle.trace.specs.Layout.{count}
use Rattle.trace.specs.Texts.{fault_words, refusal_text}

-- each line ends in a line feed
abbrev pub event_line : ℕ → ℕ → Event → List ℕ
event_line n b e =
    codes "  event " ++ (decimal n ++ (codes ", byte " ++ (decimal b ++ (codes ": " ++ (event_text e ++ (10 ∷ []))))))

unfoldable pub event_lines : ℕ → ℕ → List Event → List ℕ
event_lines n b [] = []
event_lines n b (e ∷ events) = event_line n b e ++ event_lines (n + 1) (b + length (event_bytes e)) events

abbrev pub heading : ℕ → List ℕ
heading s = codes "section " ++ (decimal s ++ (10 ∷ []))

unfoldable pub sections_text : ℕ → ℕ → ℕ → List ℕ → List Event → List ℕ
sections_text s n b [] events = []
sections_text s n b (c ∷ counts) events =
    let here = take c events in
    heading s
    ++ (event_lines n b here
    ++ sections_text (s + 1) (n + length here) (b + length (body here)) counts (drop c events))

abbrev pub refusal_line : Refusal → List ℕ
refusal_line f = refusal_text f ++ (codes ": " ++ (fault_words f.fault ++ (10 ∷ [])))

abbrev pub events_line : ℕ → ℕ → List ℕ
events_line events sections =
    codes "events " ++ (decimal events ++ (codes " sections " ++ (decimal sections ++ (10 ∷ []))))

abbrev pub written_line : ℕ → List ℕ
written_line bytes = codes "written back: the same " ++ (decimal bytes ++ (codes " bytes" ++ (10 ∷ [])))

abbrev pub ending : List ℕ → List ℕ → List Event → Option Refusal → List ℕ
ending bytes counts events (Some f) = refusal_line f
ending bytes counts events None = events_line (length events) (length counts) ++ written_line (length bytes)

-- event bodies begin behind the header's 4 bytes and 8 for each section
abbrev pub listing : List ℕ → List ℕ → List Event → Option Refusal → List ℕ
listing bytes counts events end =
    sections_text 1 1 (4 + 8 * count bytes) counts events ++ ending bytes counts events end

pub record IsListing (bytes t : List ℕ) : Type 0 where
  pub counts : List ℕ
  pub events : List Event
  pub end : Option Refusal
  pub front : IsFrontOf bytes counts events end
  pub same : IfNone end (file counts events ≡ bytes)
  pub text : t ≡ listing bytes counts events end
