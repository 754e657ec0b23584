-- What reading on answers, case by case. Assumes nothing.
use Rattle.std.proofs.Common.{◌≡◌, ℕ, ◌+◌, ◌-◌, ◌<◌, ◌≤◌, Bool, true, false, cond, eqb, ltb, leb, List, length, get_or, Some, None, Ok, Err, Option, Result, sym, refl, ap, ◌∙◌, arith}
use Rattle.std.proofs.lemmas.Bool.{ltb-false, leb-false}
use Rattle.events.specs.declared.Event.{Event}
use Rattle.trace.specs.declared.fault.TraceFault.{TraceFault}
use Rattle.trace.specs.declared.fault.TraceFault.TheVariants.{Kind, Overrun}
use Rattle.trace.specs.declared.fault.Site.{Site}
use Rattle.trace.specs.declared.fault.Refusal.{Refusal}
use Rattle.trace.specs.declared.place.Place.{Place}
use Rattle.trace.specs.Codec.{size, decoded, event_at}
use Rattle.trace.specs.Layout.{count, body_end, opening, section_at}
use Rattle.trace.specs.Reading.{sections_or, site, placed, origin, outside, entered, inside, taken, moved, kept, some_event, unless_refused, onward, behind, next, after}
use Rattle.trace.proofs.Opened.{size_some}

opened_by : (bytes : List ℕ) (o : Option Refusal) (n : ℕ) → sections_or bytes o ≡ Ok n → o ≡ None
opened_by bytes (Some x) n e = absurd (let z : ◌≡◌ {A = ℕ} 0 1 = cc in omega arith)
opened_by bytes None n e = refl

either : {A : Type 0} (b : Bool) (x : A) → cond b x x ≡ x
either true x = refl
either false x = refl

behind_stays : (b : Bool) (r : Result Event Refusal) (q m : Place) → ((e : Event) → cond b (some_event r) (Ok None) ≡ Ok (Some e) → ⊥) → cond b (kept r q m) q ≡ q
behind_stays true (Ok e) q m none = absurd (none e refl)
behind_stays true (Err f) q m none = refl
behind_stays false r q m none = refl

after_stays_as : (bytes : List ℕ) (p : Place) (o : Option Refusal) → opening bytes ≡ o → ((e : Event) → next bytes p ≡ Ok (Some e) → ⊥) → after bytes p ≡ inside bytes p
after_stays_as bytes p (Some f) o none =
    ap (λ r. unless_refused r (λ _. p) (behind bytes (inside bytes p))) o ∙ sym (ap (λ r. cond (eqb p.byte 0) (entered bytes r p) p) o ∙ either (eqb p.byte 0) p)
after_stays_as bytes p None o none =
    let q = inside bytes p in
    ap (λ r. unless_refused r (λ _. p) (behind bytes q)) o ∙ behind_stays (ltb q.byte (length bytes)) (taken bytes q) q (moved bytes q) (λ e h. none e (ap (λ r. unless_refused r Err (onward bytes q)) o ∙ h))

-- a reader that read no event stays where it was inside the file
pub after_stays : (bytes : List ℕ) (p : Place) → ((e : Event) → next bytes p ≡ Ok (Some e) → ⊥) → after bytes p ≡ inside bytes p
after_stays bytes p none = after_stays_as bytes p (opening bytes) refl none

ok_of : (x y : Bool) (f g : TraceFault) (d e : Event) → cond {A = Result Event TraceFault} x (Err f) (cond y (Err g) (Ok d)) ≡ Ok e → (x ≡ false) × (y ≡ false) × (d ≡ e)
ok_of true y f g d e h = absurd (let z : ◌≡◌ {A = ℕ} 0 1 = cc in omega arith)
ok_of false true f g d e h = absurd (let z : ◌≡◌ {A = ℕ} 0 1 = cc in omega arith)
ok_of false false f g d e h = (refl, refl, cc)

placed_is : (s : Site) (r : Result Event TraceFault) (e : Event) → placed s r ≡ Ok e → r ≡ Ok e
placed_is s (Ok x) e h = cc
placed_is s (Err f) e h = absurd (let z : ◌≡◌ {A = ℕ} 0 1 = cc in omega arith)

-- an event that is taken has a kind, lies in its body, and is the one that its bytes say
pub taken_ok : (bytes : List ℕ) (p : Place) (e : Event) → taken bytes p ≡ Ok e → (get_or bytes p.byte 0 < 10) × (p.byte + size (get_or bytes p.byte 0) ≤ body_end bytes (section_at bytes p.byte)) × (decoded bytes p.byte ≡ e)
taken_ok bytes p e h =
    let k = get_or bytes p.byte 0 in
    let end = body_end bytes (section_at bytes p.byte) in
    let ok = ok_of (leb 10 k) (ltb (end - p.byte) (size k)) Kind Overrun (decoded bytes p.byte) e (placed_is (site bytes p) (event_at bytes p.byte end) e h) in
    let some = size_some k in
    (leb-false 10 k ok.0, omega (arith, ltb-false (end - p.byte) (size k) ok.1), ok.2)

count_by : (bytes : List ℕ) (o : Option Refusal) (n : ℕ) → sections_or bytes o ≡ Ok n → n ≡ count bytes
count_by bytes (Some x) n e = absurd (let z : ◌≡◌ {A = ℕ} 0 1 = cc in omega arith)
count_by bytes None n e = cc

-- the file opens, and a reader from outside stands before its first event
pub entered_ok : (bytes : List ℕ) (n : ℕ) → sections_or bytes (opening bytes) ≡ Ok n → (opening bytes ≡ None) × (n ≡ count bytes) × (inside bytes outside ≡ origin bytes)
entered_ok bytes n e =
    let o = opened_by bytes (opening bytes) n e in
    (o, count_by bytes (opening bytes) n e, ap (λ r. entered bytes r outside) o)
