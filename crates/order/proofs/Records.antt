-- Positions of a record: what holds at the newest event, and what a longer record keeps. Assumes nothing.
use Rattle.std.proofs.Common.{◌≡◌, ℕ, ◌<◌, ◌≤◌, true, ◌⊎◌, List, [], ◌∷◌, length, sym, refl, ◌∙◌, inl, inr, arith}
use Rattle.std.proofs.lemmas.Bool.{cond-true, cond-false, eq-eqb, ne_eqb, cases_eq, false≢true, lt-ltb, le-ltb}
use Rattle.events.specs.declared.Event.{Event}
use Rattle.order.specs.Records.{Test, holds_at, before}

pub holds_at_last : (rec : List Event) (e : Event) (f : Test) → holds_at (e ∷ rec) (length rec) f ≡ f rec e
unfolding holds_at
holds_at_last rec e f = cond-true _ _ _ (eq-eqb (length rec) (length rec) refl)

pub holds_at_past : (rec : List Event) (e : Event) (i : ℕ) (f : Test) → i < length rec → holds_at (e ∷ rec) i f ≡ holds_at rec i f
unfolding holds_at
holds_at_past rec e i f l = cond-false _ _ _ (ne_eqb i (length rec) (λ q. omega arith))

pub holds_at_cases : (rec : List Event) (e : Event) (i : ℕ) (f : Test) → holds_at (e ∷ rec) i f ≡ true → ((i ≡ length rec) × (f rec e ≡ true)) ⊎ (holds_at rec i f ≡ true)
unfolding holds_at
holds_at_cases rec e i f h =
    elim (cases_eq i (length rec)) [
      | inl q ↦ inl (q, sym (cond-true _ (f rec e) _ (eq-eqb i (length rec) q)) ∙ h)
      | inr q ↦ inr (sym (cond-false _ (f rec e) _ (ne_eqb i (length rec) q)) ∙ h)
    ]

pub holds_at_within : (rec : List Event) (i : ℕ) (f : Test) → holds_at rec i f ≡ true → i < length rec
unfolding holds_at
holds_at_within [] i f h = absurd (false≢true h)
holds_at_within (e ∷ rec) i f h =
    elim (holds_at_cases rec e i f h) [ inl q ↦ (let same = q.0 in omega arith) | inr q ↦ (let l = holds_at_within rec i f q in omega arith) ]

-- the record before a position stays as the record grows
pub before_past : (rec : List Event) (e : Event) (i : ℕ) → i ≤ length rec → before (e ∷ rec) i ≡ before rec i
unfolding before
before_past rec e i l = cond-false _ _ _ (le-ltb (length rec) i l)

pub before_all : (rec : List Event) (i : ℕ) → length rec ≤ i → before rec i ≡ rec
unfolding before
before_all [] i l = refl
before_all (e ∷ rec) i l = cond-true _ _ _ (lt-ltb (length rec) i l)

-- what stands at a position: an event, with the record before it
pub at_position : (rec : List Event) (i : ℕ) → i < length rec → (past : List Event) × (e : Event) × ((f : Test) → holds_at rec i f ≡ f past e) × (before rec i ≡ past)
unfolding holds_at before
at_position [] i l = absurd (omega arith)
at_position (e ∷ rec) i l =
    elim (cases_eq i (length rec)) [
      | inl q ↦ (rec, e, λ f. cond-true _ _ _ (eq-eqb i (length rec) q), before_past rec e i (omega arith) ∙ before_all rec i (omega arith))
      | inr q ↦
          let rest = at_position rec i (omega arith) in
          (rest.0, rest.1, λ f. cond-false _ _ _ (ne_eqb i (length rec) q) ∙ rest.2 f, before_past rec e i (omega arith) ∙ rest.3)
    ]

pub holds_at_weaker : (rec : List Event) (i : ℕ) (f g : Test) → ((past : List Event) (e : Event) → f past e ≡ true → g past e ≡ true) → holds_at rec i f ≡ true → holds_at rec i g ≡ true
holds_at_weaker rec i f g w h =
    let here = at_position rec i (holds_at_within rec i f h) in
    here.2 g ∙ w here.0 here.1 (sym (here.2 f) ∙ h)
