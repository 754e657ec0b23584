-- The newest position at which a test holds. Assumes nothing.
use Rattle.std.proofs.Common.{◌≡◌, ℕ, true, false, ◌⊎◌, List, [], ◌∷◌, length, Some, None, refl, ◌∙◌, inl, inr, arith}
use Rattle.std.proofs.lemmas.Bool.{false≢true, both_ways, cond-true, cond-false, cases_Bool}
use Rattle.events.specs.declared.Event.{Event}
use Rattle.order.specs.Records.{Test, holds_at, latest}
use Rattle.order.specs.Verdicts.{Latest}
use Rattle.order.proofs.Records.{holds_at_last, holds_at_past, holds_at_cases, holds_at_within}

module _ (f : Test) where
  latest_newest : (rec : List Event) (e : Event) → f rec e ≡ true → Latest f (e ∷ rec) (length rec)
  latest_newest rec e h =
      record { holds = holds_at_last rec e f ∙ h; last = λ j q. let l = holds_at_within (e ∷ rec) j f q in omega arith }

  latest_older : (rec : List Event) (e : Event) (i : ℕ) → f rec e ≡ false → Latest f rec i → Latest f (e ∷ rec) i
  latest_older rec e i h m = record {
    holds = holds_at_past rec e i f (holds_at_within rec i f m.holds) ∙ m.holds;
    last = λ j q. elim (holds_at_cases rec e j f q) [ inl r ↦ absurd (both_ways _ h r.1) | inr r ↦ m.last j r ];
  }

  -- the search finds it, or there is none
  pub latest_cases : (rec : List Event) → ((i : ℕ) × (latest f rec ≡ Some i) × Latest f rec i) ⊎ ((latest f rec ≡ None) × ((j : ℕ) → holds_at rec j f ≡ true → ⊥))
  unfolding latest holds_at
  latest_cases [] = inr (refl, λ j h. false≢true h)
  latest_cases (e ∷ rec) =
      elim (cases_Bool (f rec e)) [
        | inl h ↦ inl (length rec, cond-true _ _ _ h, latest_newest rec e h)
        | inr h ↦ elim (latest_cases rec) [
          | inl m ↦ inl (m.0, cond-false _ _ _ h ∙ m.1, latest_older rec e m.0 h m.2)
          | inr m ↦ inr (cond-false _ _ _ h ∙ m.0, λ j q. elim (holds_at_cases rec e j f q) [ inl r ↦ both_ways _ h r.1 | inr r ↦ m.1 j r ])
        ]
      ]

  pub latest_some : (rec : List Event) (i : ℕ) → latest f rec ≡ Some i → Latest f rec i
  latest_some rec i h =
      elim (latest_cases rec) [
        | inl m ↦ (let same : m.0 ≡ i = (let q = m.1 in cc) in rw same at m.2)
        | inr m ↦ (let q = m.0 in let z : ◌≡◌ {A = ℕ} 0 1 = cc in absurd (omega arith))
      ]

  pub latest_is : (rec : List Event) (i : ℕ) → Latest f rec i → latest f rec ≡ Some i
  latest_is rec i h =
      elim (latest_cases rec) [
        | inl m ↦
            let l = m.2.last i h.holds in
            let k = h.last m.0 m.2.holds in
            let same : m.0 ≡ i = omega arith in
            rw same at m.1
        | inr m ↦ absurd (m.1 i h.holds)
      ]

  -- whatever holds somewhere has a newest position
  pub latest_from : (rec : List Event) (j : ℕ) → holds_at rec j f ≡ true → (i : ℕ) × (latest f rec ≡ Some i) × Latest f rec i
  latest_from rec j h = elim (latest_cases rec) [ inl m ↦ m | inr m ↦ absurd (m.1 j h) ]
