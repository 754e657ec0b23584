-- Handing the next event of a file to a taker. Assumes nothing.
--   answered x       what the reader tells of the taker's answer x: an event was taken, or the taker's fault
--   HandedAs ..      what handing on comes to, where reading on answers the next event, a refusal, or that there is no more:
--                    only an event that the taker takes moves the reader; without an event the taker stays as it was
--   Handed ..        the same for a reader at a place of a file
use Rattle.std.specs.Prelude.{◌≡◌, ℕ, Bool, true, false, cond, List, is_ok, IsErrAnd, Some, None, Ok, Err, Option, Result}
use Rattle.events.specs.declared.Event.{Event}
use Rattle.trace.specs.declared.fault.Site.{Site}
use Rattle.trace.specs.declared.fault.Refusal.{Refusal}
use Rattle.trace.specs.declared.place.Place.{Place}
use Rattle.trace.specs.Reading.{site, inside, next, after}

abbrev pub answered : {E : Type 0} → Result (Unit {0}) E → Result Bool E
answered (Ok x) = Ok true
answered (Err e) = Err e

abbrev pub HandedAs : {T E : Type 0} → (T → Event → Site → Result (Unit {0}) E → T → Type 0) → (Refusal → E → Type 0) → Result (Option Event) Refusal → Site → Place → Place → T → T → Place → Result Bool E → Type 0
HandedAs took converts (Err f) at stay move t t' q r = IsErrAnd r (converts f) × (t' ≡ t) × (q ≡ stay)
HandedAs took converts (Ok None) at stay move t t' q r = (r ≡ Ok false) × (t' ≡ t) × (q ≡ stay)
HandedAs {E = E} took converts (Ok (Some e)) at stay move t t' q r = (x : Result (Unit {0}) E) × took t e at x t' × (r ≡ answered x) × (q ≡ cond (is_ok x) move stay)

abbrev pub Handed : {T E : Type 0} → (T → Event → Site → Result (Unit {0}) E → T → Type 0) → (Refusal → E → Type 0) → List ℕ → Place → T → T → Place → Result Bool E → Type 0
Handed took converts bytes p t t' q r =
    HandedAs took converts (next bytes p) (site bytes (inside bytes p)) (inside bytes p) (after bytes p) t t' q r
