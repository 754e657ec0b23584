-- The lines of events and sections, one after another. Assumes nothing.
use Rattle.std.proofs.Common.{◌≡◌, ℕ, ◌+◌, ◌<◌, ◌≤◌, List, [], ◌∷◌, ◌++◌, length, take, drop, get_or, refl, ap, sym, ◌∙◌, append-nil}
use Rattle.std.proofs.lemmas.List.{append_assoc, drop_all, drop_more, length-append}
use Rattle.trace.proofs.Bodies.{blank, body_cons, body_none}
use Rattle.events.specs.declared.Event.{Event}
use Rattle.trace.specs.Codec.{event_bytes}
use Rattle.trace.specs.File.{body}
use Rattle.inspector.specs.Listings.{event_line, event_lines, heading, sections_text}

pub lines_none : (n b : ℕ) → event_lines n b [] ≡ []
unfolding event_lines
lines_none n b = refl

pub lines_more : (n b : ℕ) (e : Event) (events : List Event) → event_lines n b (e ∷ events) ≡ event_line n b e ++ event_lines (n + 1) (b + length (event_bytes e)) events
unfolding event_lines
lines_more n b e events = refl

pub sections_none : (s n b : ℕ) (events : List Event) → sections_text s n b [] events ≡ []
unfolding sections_text
sections_none s n b events = refl

pub sections_more : (s n b c : ℕ) (counts : List ℕ) (events : List Event) →
    sections_text s n b (c ∷ counts) events
    ≡ heading s ++ (event_lines n b (take c events) ++ sections_text (s + 1) (n + length (take c events)) (b + length (body (take c events))) counts (drop c events))
unfolding sections_text
sections_more s n b c counts events = refl

-- one event more is written, and the others are left
pub next_event : (done : List ℕ) (n b i : ℕ) (events : List Event) → i < length events →
    done ++ event_lines n b (drop i events)
    ≡ (done ++ event_line n b (get_or events i blank)) ++ event_lines (n + 1) (b + length (event_bytes (get_or events i blank))) (drop (i + 1) events)
next_event done n b i events h =
    let e = get_or events i blank in
    let rest = event_lines (n + 1) (b + length (event_bytes e)) (drop (i + 1) events) in
    ap (λ l. done ++ event_lines n b l) (drop_more events i blank h)
    ∙ ap (λ l. done ++ l) (lines_more n b e (drop (i + 1) events))
    ∙ sym (append_assoc done (event_line n b e) rest)

-- the bytes of what is left
pub next_bytes : (i : ℕ) (events : List Event) → i < length events →
    length (body (drop i events)) ≡ length (event_bytes (get_or events i blank)) + length (body (drop (i + 1) events))
next_bytes i events h =
    let e = get_or events i blank in
    ap (λ l. length (body l)) (drop_more events i blank h) ∙ ap length (body_cons e (drop (i + 1) events)) ∙ length-append (event_bytes e) (body (drop (i + 1) events))

-- nothing is left
pub all_events : (done : List ℕ) (n b i : ℕ) (events : List Event) → length events ≤ i → done ++ event_lines n b (drop i events) ≡ done
all_events done n b i events h =
    ap (λ l. done ++ event_lines n b l) (drop_all i events h) ∙ ap (λ l. done ++ l) (lines_none n b) ∙ append-nil done

pub no_bytes : (i : ℕ) (events : List Event) → length events ≤ i → length (body (drop i events)) ≡ 0
no_bytes i events h = ap (λ l. length (body l)) (drop_all i events h) ∙ ap length body_none

-- one section more is written, and the others are left
pub next_section : (done : List ℕ) (s n b i : ℕ) (counts : List ℕ) (events : List Event) → i < length counts →
    done ++ sections_text s n b (drop i counts) events
    ≡ ((done ++ heading s) ++ event_lines n b (take (get_or counts i 0) events))
    ++ sections_text (s + 1) (n + length (take (get_or counts i 0) events)) (b + length (body (take (get_or counts i 0) events))) (drop (i + 1) counts) (drop (get_or counts i 0) events)
next_section done s n b i counts events h =
    let c = get_or counts i 0 in
    let here = take c events in
    let rest = sections_text (s + 1) (n + length here) (b + length (body here)) (drop (i + 1) counts) (drop c events) in
    ap (λ l. done ++ sections_text s n b l events) (drop_more counts i 0 h)
    ∙ ap (λ l. done ++ l) (sections_more s n b c (drop (i + 1) counts) events)
    ∙ sym (append_assoc done (heading s) (event_lines n b here ++ rest))
    ∙ sym (append_assoc (done ++ heading s) (event_lines n b here) rest)

pub all_sections : (done : List ℕ) (s n b i : ℕ) (counts : List ℕ) (events : List Event) → length counts ≤ i → done ++ sections_text s n b (drop i counts) events ≡ done
all_sections done s n b i counts events h =
    ap (λ l. done ++ sections_text s n b l events) (drop_all i counts h) ∙ ap (λ l. done ++ l) (sections_none s n b events) ∙ append-nil done
