-- What handing an event on comes to. Assumes nothing.
use Rattle.std.proofs.Common.{◌≡◌, ℕ, ◌+◌, Bool, cond, List, get_or, is_ok, MatchResult, IsErrAnd, Some, None, Ok, Err, Option, Result, sym, ap, ◌∙◌, subst, arith}
use Rattle.events.specs.declared.Event.{Event}
use Rattle.trace.specs.declared.fault.TraceFault.{TraceFault}
use Rattle.trace.specs.declared.fault.Site.{Site}
use Rattle.trace.specs.declared.fault.Refusal.{Refusal}
use Rattle.trace.specs.declared.place.Place.{Place}
use Rattle.trace.specs.Codec.{size, event_at}
use Rattle.trace.specs.Layout.{body_end, section_at}
use Rattle.trace.specs.Reading.{site, placed, inside, taken, moved, some_event, next, after}
use Rattle.trace.specs.Handing.{answered, HandedAs, Handed}
use Rattle.trace.proofs.Steps.{after_stays}

-- a place behind the event is where its fields say
pub moved_so : (bytes : List ℕ) (p q : Place) (s : ℕ) → s ≡ section_at bytes p.byte → q.section ≡ s → q.events ≡ p.events + 1 → q.byte ≡ p.byte + size (get_or bytes p.byte 0) → q ≡ moved bytes p
moved_so bytes p q s at section events byte =
    ap (λ n. record { section = n; events = q.events; byte = q.byte }) (section ∙ at)
    ∙ ap (λ n. record { section = section_at bytes p.byte; events = n; byte = q.byte }) events
    ∙ ap (λ n. record { section = section_at bytes p.byte; events = p.events + 1; byte = n }) byte

-- what an answer was before its error was told with more
pub mapped_ok : {A E F : Type 0} (r : Result A E) {m : Result A F} (P : E → F → Type 0) (x : A) → MatchResult r (λ a. m ≡ Ok a) (λ e. IsErrAnd m (P e)) → m ≡ Ok x → r ≡ Ok x
mapped_ok (Ok a) P x h e = let both = sym h ∙ e in cc
mapped_ok (Err y) P x h e = absurd (subst (λ z. IsErrAnd z (P y)) e h)

module _ {T E : Type 0} (took : T → Event → Site → Result (Unit {0}) E → T → Type 0) (converts : Refusal → E → Type 0) (bytes : List ℕ) (p : Place) where
  -- the event that was read is handed on
  pub handed_so : (s end : ℕ) (e : Event) (read : Result Event TraceFault) (t t' : T) (q : Place) (r : Result Bool E) (was x : Result (Unit {0}) E) → s ≡ section_at bytes p.byte → end ≡ body_end bytes s → read ≡ event_at bytes p.byte end → read ≡ Ok e → took t e (record { section = s; event = p.events + 1; byte = p.byte }) was t' → was ≡ x → r ≡ answered x → q ≡ cond (is_ok x) (moved bytes p) p → HandedAs took converts (some_event (taken bytes p)) (site bytes p) p (moved bytes p) t t' q r
  handed_so s end e read t t' q r was x at stops reads ok takes came tells stands =
      let here : ◌≡◌ {A = Site} (record { section = s; event = p.events + 1; byte = p.byte }) (site bytes p) = ap (λ n. record { section = n; event = p.events + 1; byte = p.byte }) at in
      let event : read ≡ event_at bytes p.byte (body_end bytes (section_at bytes p.byte)) = reads ∙ ap (event_at bytes p.byte) (stops ∙ ap (body_end bytes) at) in
      let is : taken bytes p ≡ Ok e = ap (placed (site bytes p)) (sym event ∙ ok) in
      subst (λ o. HandedAs took converts o (site bytes p) p (moved bytes p) t t' q r) (sym (ap some_event is)) (x, subst (λ a. took t e a x t') here (subst (λ y. took t e (record { section = s; event = p.events + 1; byte = p.byte }) y t') came takes), tells, stands)

-- what is told by a taker that keeps the event
abbrev pub Keeps : Option Event → Event → Site → Result (Unit {0}) Refusal → Option Event → Type 0
Keeps _ e _ r t = (r ≡ Ok tt) × (t ≡ Some e)

abbrev pub Same : Refusal → Refusal → Type 0
Same f g = g ≡ f

kept_place : (o : Result (Option Event) Refusal) (at : Site) (stay goes : Place) (t : Option Event) (q : Place) (r : Result Bool Refusal) → (((e : Event) → o ≡ Ok (Some e) → ⊥) → goes ≡ stay) → HandedAs Keeps Same o at stay goes None t q r → q ≡ goes
kept_place (Err f) at stay goes t q r stays h = h.2 ∙ sym (stays (λ e g. absurd (let z : ◌≡◌ {A = ℕ} 0 1 = cc in omega arith)))
kept_place (Ok None) at stay goes t q r stays h = h.2 ∙ sym (stays (λ e g. absurd (let z : ◌≡◌ {A = ℕ} 0 1 = cc in omega arith)))
kept_place (Ok (Some e)) at stay goes t q r stays h = h.3 ∙ ap (λ x. cond (is_ok x) goes stay) h.1.0

kept_err : (o : Result (Option Event) Refusal) (at : Site) (stay goes : Place) (t : Option Event) (q : Place) (f : Refusal) → HandedAs Keeps Same o at stay goes None t q (Err f) → o ≡ Err f
kept_err (Err g) at stay goes t q f h = ap Err (sym h.0)
kept_err (Ok None) at stay goes t q f h = absurd (let g = h.0 in let z : ◌≡◌ {A = ℕ} 0 1 = cc in omega arith)
kept_err (Ok (Some e)) at stay goes t q f h = absurd (let g = h.2 ∙ ap answered h.1.0 in let z : ◌≡◌ {A = ℕ} 0 1 = cc in omega arith)

kept_ok : (o : Result (Option Event) Refusal) (at : Site) (stay goes : Place) (t : Option Event) (q : Place) (b : Bool) → HandedAs Keeps Same o at stay goes None t q (Ok b) → o ≡ Ok t
kept_ok (Err g) at stay goes t q b h = absurd h.0
kept_ok (Ok None) at stay goes t q b h = ap Ok (sym h.1)
kept_ok (Ok (Some e)) at stay goes t q b h = ap Ok (sym h.1.1)

-- reading the next event is handing it to such a taker
module _ (bytes : List ℕ) (p q : Place) (t : Option Event) where
  pub next_place : (r : Result Bool Refusal) → Handed Keeps Same bytes p None t q r → q ≡ after bytes p
  next_place r h = kept_place (next bytes p) (site bytes (inside bytes p)) (inside bytes p) (after bytes p) t q r (after_stays bytes p) h

  pub next_err : (f : Refusal) → Handed Keeps Same bytes p None t q (Err f) → next bytes p ≡ Err f
  next_err f h = kept_err (next bytes p) (site bytes (inside bytes p)) (inside bytes p) (after bytes p) t q f h

  pub next_ok : (b : Bool) → Handed Keeps Same bytes p None t q (Ok b) → next bytes p ≡ Ok t
  next_ok b h = kept_ok (next bytes p) (site bytes (inside bytes p)) (inside bytes p) (after bytes p) t q b h
