-- A whole file read: its events with their sections. Assumes nothing.
--   Reads bytes p ts o       from the place p on the events ts are read, each with its section, up to the end or to the refusal in o
--   tagged s counts events   the events with their sections, from section s on, so many events each
--   IsTraceOf bytes counts events   the file opens and holds just these events, in sections of so many each
--   Refuses bytes f          reading the file comes to the refusal f
use Rattle.std.specs.Prelude.{◌≡◌, ℕ, suc, ◌<◌, ◌≤◌, ◌⊎◌, List, [], ◌∷◌, ◌++◌, map, length, take, drop, Some, None, Ok, Err, vec_items, sum, Option, Result}
use Rattle.std.specs.declared.alloc.AllocError.{AllocError}
use Rattle.events.specs.declared.Event.{Event}
use Rattle.trace.specs.declared.fault.Refusal.{Refusal}
use Rattle.trace.specs.declared.place.Place.{Place}
use Rattle.trace.specs.declared.whole.Trace.{Trace}
use Rattle.trace.specs.declared.whole.ReadError.{ReadError}
use Rattle.trace.specs.declared.whole.ReadError.TheVariants.{Refused, Memory}
use Rattle.trace.specs.Layout.{count, body_end, opening, section_at}
use Rattle.trace.specs.Reading.{origin, taken, moved}
use Rattle.trace.specs.Refusals.{FirstRefusal, EventRefusal}
use Rattle.trace.specs.File.{file}

unfoldable pub Reads : List ℕ → Place → List (ℕ × Event) → Option Refusal → Type 0
Reads bytes p [] None = length bytes ≤ p.byte
Reads bytes p [] (Some f) = EventRefusal bytes p f
Reads bytes p (t ∷ ts) o =
    (p.byte < length bytes) × (section_at bytes p.byte ≡ t.0) × (taken bytes p ≡ Ok t.1) × Reads bytes (moved bytes p) ts o

-- events that all lie in section s
abbrev pub in_section : ℕ → List Event → List (ℕ × Event)
in_section s events = map (λ e. (s, e)) events

unfoldable pub tagged : ℕ → List ℕ → List Event → List (ℕ × Event)
tagged s [] events = []
tagged s (c ∷ counts) events = in_section s (take c events) ++ tagged (suc s) counts (drop c events)

pub record IsTraceOf (bytes counts : List ℕ) (events : List Event) : Type 0 where
  pub opens : opening bytes ≡ None
  pub sections : length counts ≡ count bytes
  pub total : sum counts ≡ length events
  pub reads : Reads bytes (origin bytes) (tagged 1 counts events) None

abbrev pub Refuses : List ℕ → Refusal → Type 0
Refuses bytes f = FirstRefusal bytes f ⊎ ((ts : List (ℕ × Event)) × Reads bytes (origin bytes) ts (Some f))

-- one event more, or want of memory, and then the list as it was
abbrev pub Pushed : List Event → Event → Result (Unit {0}) ReadError → List Event → Type 0
Pushed old e (Ok x) all = all ≡ old ++ (e ∷ [])
Pushed old e (Err f) all = (f ≡ Memory) × (all ≡ old)

-- all that is read behind q was read behind p after the events of section s
abbrev pub Onward : List ℕ → ℕ → Place → Place → List Event → Type 0
Onward bytes s p q events =
    (ts : List (ℕ × Event)) (o : Option Refusal) → Reads bytes q ts o → Reads bytes p (in_section s events ++ ts) o

-- the events that are left of section s from p on are behind the old ones, and the reader stands at q; or one of the section is refused,
-- and those before it are behind the old ones
abbrev pub SectionRead : List ℕ → ℕ → Place → Place → List Event → List Event → Result (Option Refusal) AllocError → Type 0
SectionRead bytes s p q old all (Ok None) = (0 < q.byte) × (q.byte ≡ body_end bytes s) × ((events : List Event) × (all ≡ old ++ events) × Onward bytes s p q events)
SectionRead bytes s p q old all (Ok (Some f)) = (f.at.section ≡ s) × ((events : List Event) × (all ≡ old ++ events) × Reads bytes p (in_section s events) (Some f))
SectionRead bytes s p q old all (Err x) = Unit {0}

-- what reading a whole file answers; want of memory says nothing of the file
abbrev pub WholeRead : List ℕ → Result Trace ReadError → Type 0
WholeRead bytes (Ok t) = IsTraceOf bytes (vec_items t.counts) (vec_items t.events) × (file (vec_items t.counts) (vec_items t.events) ≡ bytes)
WholeRead bytes (Err (Refused f)) = Refuses bytes f
WholeRead bytes (Err Memory) = Unit {0}
