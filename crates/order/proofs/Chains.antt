-- Chains of steps: joined, taken apart at the last step, kept as the record grows, and decided by a test. Assumes nothing.
use Rattle.std.proofs.Common.{◌≡◌, ℕ, ◌<◌, Bool, true, ◌&&◌, ◌||◌, eqb, ◌⊎◌, List, [], ◌∷◌, length, Decides, sym, refl, ◌∙◌, subst, inl, inr, arith}
use Rattle.std.proofs.lemmas.Bool.{cond-true, cond-false, eq-eqb, ne_eqb, eqb-true, cases_eq, false≢true, and_parts, and_from, or_cases, or_left, or_right}
use Rattle.events.specs.declared.Event.{Event}
use Rattle.order.specs.Records.{Test, holds_at}
use Rattle.order.specs.Order.{pair, hands_over, same_thread, linked, Step, Chain, one, more, Ordered, ordered}
use Rattle.order.proofs.Searches.{some_below_found, some_below_from}
use Rattle.order.proofs.Records.{holds_at_past, at_position}

pub chain_append : {R : ℕ → ℕ → Type 0} {i j k : ℕ} → Chain R i j → Chain R j k → Chain R i k
chain_append c (one s) = more c s
chain_append c (more d s) = more (chain_append c d) s

-- the last step of a chain, from where the chain starts or from where a shorter chain leads
pub chain_last : {R : ℕ → ℕ → Type 0} {i k : ℕ} → Chain R i k → (j : ℕ) × ((i ≡ j) ⊎ Chain R i j) × R j k
chain_last (one {i = i} s) = (i, inl refl, s)
chain_last (more {j = j} c s) = (j, inr c, s)

pub chain_from_last : {R : ℕ → ℕ → Type 0} {i j k : ℕ} → (i ≡ j) ⊎ Chain R i j → R j k → Chain R i k
chain_from_last {R = R} {k = k} (inl q) s = one (subst (λ x. R x k) (sym q) s)
chain_from_last (inr c) s = more c s

pub ordered_earlier : (rec : List Event) {i j : ℕ} → Ordered rec i j → i < j
ordered_earlier rec (one s) = s.earlier
ordered_earlier rec (more c s) = let l = ordered_earlier rec c in omega (arith, s.earlier)

pub ordered_within : (rec : List Event) {i j : ℕ} → Ordered rec i j → j < length rec
ordered_within rec (one s) = s.within
ordered_within rec (more c s) = s.within

-- event a and a later event b are linked: one thread's, or a hand-over
abbrev pub link : List Event → Event → List Event → Event → Bool
link past a past' b = eqb a.thread b.thread || pair past a past' b

-- the link between two positions is the link between the events that stand there
pub linked_is : (rec : List Event) (i j : ℕ) (past past' : List Event) (a b : Event) → ((f : Test) → holds_at rec i f ≡ f past a) → ((f : Test) → holds_at rec j f ≡ f past' b) → linked rec i j ≡ link past a past' b
unfolding linked hands_over same_thread
linked_is rec i j past past' a b p q = rw (p, p, q, q)

pub linked_past : (rec : List Event) (e : Event) (i j : ℕ) → i < length rec → j < length rec → linked (e ∷ rec) i j ≡ linked rec i j
linked_past rec e i j l m =
    let here = at_position rec i l in
    let there = at_position rec j m in
    linked_is (e ∷ rec) i j here.0 there.0 here.1 there.1 (λ f. holds_at_past rec e i f l ∙ here.2 f) (λ f. holds_at_past rec e j f m ∙ there.2 f) ∙ sym (linked_is rec i j here.0 there.0 here.1 there.1 here.2 there.2)

-- what holds of a record holds of the longer one
pub step_longer : (rec : List Event) (e : Event) {i j : ℕ} → Step rec i j → Step (e ∷ rec) i j
step_longer rec e {i} {j} s =
    let l = s.earlier in
    let m = s.within in
    record { earlier = l; within = omega arith; link = linked_past rec e i j (omega arith) m ∙ s.link }

pub step_shorter : (rec : List Event) (e : Event) {i j : ℕ} → j < length rec → Step (e ∷ rec) i j → Step rec i j
step_shorter rec e {i} {j} m s =
    let l = s.earlier in
    record { earlier = l; within = m; link = sym (linked_past rec e i j (omega arith) m) ∙ s.link }

pub ordered_longer : (rec : List Event) (e : Event) {i j : ℕ} → Ordered rec i j → Ordered (e ∷ rec) i j
ordered_longer rec e (one s) = one (step_longer rec e s)
ordered_longer rec e (more c s) = more (ordered_longer rec e c) (step_longer rec e s)

pub ordered_shorter : (rec : List Event) (e : Event) {i j : ℕ} → j < length rec → Ordered (e ∷ rec) i j → Ordered rec i j
ordered_shorter rec e m (one s) = one (step_shorter rec e m s)
ordered_shorter rec e m (more c s) = let l = s.earlier in more (ordered_shorter rec e (omega arith) c) (step_shorter rec e m s)

-- the test decides whether there is a chain
pub ordered_decides : (rec : List Event) (i j : ℕ) → Decides (ordered rec i j) (Ordered rec i j)
unfolding ordered
ordered_decides [] i j = (λ h. absurd (false≢true h), λ c. let l = ordered_within [] c in absurd (omega arith))
ordered_decides (e ∷ rec) i j = go (cases_eq j (length rec)) (ordered_decides rec i)
  where
    tests : ℕ → Bool
    tests k = linked (e ∷ rec) k j && (eqb k i || ordered rec i k)

    start : ((k : ℕ) → Decides (ordered rec i k) (Ordered rec i k)) → (k : ℕ) → (eqb k i || ordered rec i k) ≡ true → (i ≡ k) ⊎ Ordered (e ∷ rec) i k
    start ih k h =
        elim (or_cases _ _ h) [ inl q ↦ inl (sym (eqb-true k i q)) | inr q ↦ inr (ordered_longer rec e ((ih k).0 q)) ]

    back : ((k : ℕ) → Decides (ordered rec i k) (Ordered rec i k)) → (k : ℕ) → k < length rec → (i ≡ k) ⊎ Ordered (e ∷ rec) i k → (eqb k i || ordered rec i k) ≡ true
    back ih k l (inl q) = or_left _ _ (eq-eqb k i (sym q))
    back ih k l (inr c) = or_right _ _ ((ih k).1 (ordered_shorter rec e l c))

    go : (j ≡ length rec) ⊎ (j ≡ length rec → ⊥) → ((k : ℕ) → Decides (ordered rec i k) (Ordered rec i k)) → Decides (ordered (e ∷ rec) i j) (Ordered (e ∷ rec) i j)
    go (inl q) ih = (
      λ h.
          let found = some_below_found (length rec) tests (sym (cond-true _ _ _ (eq-eqb j (length rec) q)) ∙ h) in
          let parts = and_parts _ _ found.2 in
          let l = found.1 in
          chain_from_last (start ih found.0 parts.1) (record { earlier = omega arith; within = omega arith; link = parts.0 }),
      λ c.
          let last = chain_last c in
          let l = last.2.earlier in
          let m : last.0 < length rec = omega arith in
          cond-true _ _ _ (eq-eqb j (length rec) q) ∙ some_below_from (length rec) tests last.0 m (and_from _ _ last.2.link (back ih last.0 m last.1)),
    )
    go (inr q) ih = (
      λ h. ordered_longer rec e ((ih j).0 (sym (cond-false _ _ _ (ne_eqb j (length rec) q)) ∙ h)),
      λ c.
          let l = ordered_within (e ∷ rec) c in
          cond-false _ _ _ (ne_eqb j (length rec) q) ∙ (ih j).1 (ordered_shorter rec e (omega arith) c),
    )
