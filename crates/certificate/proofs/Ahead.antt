-- Each event that is read brings the reader on, and is counted. Assumes nothing.
use Rattle.std.proofs.Common.{◌≡◌, ℕ, ◌+◌, ◌<◌, ◌≤◌, eqb, List, get_or, Some, Ok, ap, ◌∙◌, arith}
use Rattle.std.proofs.lemmas.Bool.{eqb-true, cond_both}
use Rattle.events.specs.declared.Event.{Event}
use Rattle.trace.specs.declared.place.Place.{Place}
use Rattle.trace.specs.Layout.{opening}
use Rattle.trace.specs.Reading.{entered, inside, next, after}
use Rattle.trace.proofs.Answered.{inside_again, next_event, some_after}
use Rattle.trace.proofs.Opened.{size_some}

inside_on : (bytes : List ℕ) (p : Place) → p.byte ≤ (inside bytes p).byte
inside_on bytes p = cond_both (eqb p.byte 0) (entered bytes (opening bytes) p) p (λ q. p.byte ≤ q.byte) (λ t. let z = eqb-true p.byte 0 t in omega arith) (λ _. omega arith)

pub ahead : (bytes : List ℕ) (p : Place) (e : Event) → next bytes p ≡ Ok (Some e) → p.byte < (after bytes p).byte
ahead bytes p e h =
    let byte = ap (λ q. q.byte) (next_event bytes p e h).moves in
    let some = size_some (get_or bytes (inside bytes p).byte 0) in
    let on = inside_on bytes p in
    omega arith

pub counted : (bytes : List ℕ) (p : Place) (e : Event) → next bytes p ≡ Ok (Some e) → (inside bytes (after bytes p)).events ≡ (inside bytes p).events + 1
counted bytes p e h = ap (λ q. q.events) (inside_again bytes (after bytes p) (some_after bytes p e h) ∙ (next_event bytes p e h).moves)
