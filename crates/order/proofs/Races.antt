-- A race-free record stays race-free if the new event races with nothing. Assumes nothing.
use Rattle.std.proofs.Common.{◌≡◌, ℕ, ◌<◌, Bool, true, eqb, ◌⊎◌, List, ◌∷◌, length, sym, refl, ◌∙◌, subst, inl, inr, arith}
use Rattle.std.proofs.lemmas.Bool.Decides.{not_from_Decides}
use Rattle.std.proofs.lemmas.Bool.{and_parts, and_from, or_cases, or_left, eq-eqb, eqb-true, cases_eq, cases_Bool}
use Rattle.events.specs.declared.Event.{Event}
use Rattle.order.specs.Acts.{writes_place, reads_place, touches}
use Rattle.order.specs.Records.{holds_at}
use Rattle.order.specs.Order.{Ordered, ordered, one}
use Rattle.order.specs.Conflicts.{lives, in_life, writes_in, reads_in, Conflict, RaceFree, Race}
use Rattle.order.specs.Judgement.{reads_by}
use Rattle.order.specs.Verdicts.{LatestWrite, LatestRead, Before}
use Rattle.order.proofs.Records.{holds_at_past, holds_at_last, holds_at_within, at_position}
use Rattle.order.proofs.Chains.{chain_append, ordered_longer, ordered_decides, linked_is}
use Rattle.order.proofs.Latest.{latest_from}
use Rattle.order.proofs.Accesses.{in_life_parts, in_life_from, touches_in_cases, write_in_touches, read_in_touches, writes_conflict, write_conflicts, conflict_shorter}

-- one thread's events are ordered as they came
pub thread_ordered : (rec : List Event) (i j : ℕ) (past past' : List Event) (a b : Event) → i < j → j < length rec → ((f : List Event → Event → Bool) → holds_at rec i f ≡ f past a) → ((f : List Event → Event → Bool) → holds_at rec j f ≡ f past' b) → a.thread ≡ b.thread → Ordered rec i j
thread_ordered rec i j past past' a b l m p q same =
    one (record { earlier = l; within = m; link = linked_is rec i j past past' a b p q ∙ or_left (eqb a.thread b.thread) _ (eq-eqb _ _ same) })

module _ (rec : List Event) (e : Event) where
  -- an access that is the same or ordered before one that is before e
  onto : (i w : ℕ) → (i ≡ w) ⊎ Ordered rec i w → Before rec e w → Before rec e i
  onto i w (inl q) b = subst (λ x. Before rec e x) (sym q) b
  onto i w (inr c) b = chain_append (ordered_longer rec e c) b

  module _ (free : RaceFree rec) (p : ℕ) where
    -- each write of the life is the latest or ordered before it
    pub writes_before : (i w : ℕ) → writes_in rec p (lives rec p) i ≡ true → LatestWrite rec p w → (i ≡ w) ⊎ Ordered rec i w
    writes_before i w h m =
        let l = m.last i h in
        elim (cases_eq i w) [
          | inl q ↦ inl q
          | inr q ↦ inr (free p (lives rec p) i w (omega arith) (writes_conflict rec p (lives rec p) i w h (write_in_touches rec p (lives rec p) w m.holds)))
        ]

  -- a read of the life by t is t's latest or ordered before it
  pub reads_before : (p i r t : ℕ) → holds_at rec i (in_life (reads_by t) p (lives rec p)) ≡ true → LatestRead rec p t r → (i ≡ r) ⊎ Ordered rec i r
  unfolding reads_by
  reads_before p i r t h m =
      let l = m.last i h in
      let k = holds_at_within rec i _ h in
      let k' = holds_at_within rec r _ m.holds in
      let here = at_position rec i k in
      let there = at_position rec r k' in
      let mine = in_life_parts (reads_by t) p (lives rec p) here.0 here.1 (sym (here.2 _) ∙ h) in
      let its = in_life_parts (reads_by t) p (lives rec p) there.0 there.1 (sym (there.2 _) ∙ m.holds) in
      let t₁ = eqb-true here.1.thread t (and_parts (reads_place here.1 p) (eqb here.1.thread t) mine.0).1 in
      let t₂ = eqb-true there.1.thread t (and_parts (reads_place there.1 p) (eqb there.1.thread t) its.0).1 in
      elim (cases_eq i r) [
        | inl q ↦ inl q
        | inr q ↦ inr (thread_ordered rec i r here.0 there.0 here.1 there.1 (omega arith) k' here.2 there.2 (t₁ ∙ sym t₂))
      ]

  -- each read has a thread
  pub reader : (p n i : ℕ) → reads_in rec p n i ≡ true → (t : ℕ) × (holds_at rec i (in_life (reads_by t) p n) ≡ true) × (holds_at rec i (λ past a. eqb a.thread t) ≡ true)
  unfolding reads_by
  reader p n i h =
      let here = at_position rec i (holds_at_within rec i _ h) in
      let t = here.1.thread in
      let k = in_life_parts reads_place p n here.0 here.1 (sym (here.2 _) ∙ h) in (
        t,
        here.2 _ ∙ in_life_from (reads_by t) p n here.0 here.1 (and_from (reads_place here.1 p) (eqb t t) k.0 (eq-eqb t t refl)) k.1,
        here.2 _ ∙ eq-eqb t t refl,
      )

  -- e's accesses of p race with nothing if the latest write, and for a write each thread's latest read, is ordered before e
  module _ (free : RaceFree rec) (p : ℕ) (writes : (w : ℕ) → LatestWrite rec p w → Before rec e w) (reads : writes_place e p ≡ true → (t r : ℕ) → LatestRead rec p t r → Before rec e r) where
    write_safe : (i : ℕ) → writes_in rec p (lives rec p) i ≡ true → Before rec e i
    write_safe i h =
        let m = latest_from _ rec i h in
        onto i m.0 (writes_before free p i m.0 h m.2) (writes m.0 m.2)

    read_safe : writes_place e p ≡ true → (i : ℕ) → reads_in rec p (lives rec p) i ≡ true → Before rec e i
    read_safe w i h =
        let t = reader p (lives rec p) i h in
        let m = latest_from _ rec i t.1 in
        onto i m.0 (reads_before p i m.0 t.0 t.1 m.2) (reads w t.0 m.0 m.2)

    pub safe : (i : ℕ) → Race rec e p i → ⊥
    safe i r =
        let l = r.accepted in
        let n = lives rec p in
        elim (touches_in_cases rec p n i (sym (holds_at_past rec e i _ l) ∙ r.conflict.first)) [
          | inl w ↦ r.unordered (write_safe i w)
          | inr q ↦ elim (or_cases _ _ r.conflict.write) [
            | inl w ↦ r.unordered (write_safe i (sym (holds_at_past rec e i _ l) ∙ w))
            | inr w ↦ r.unordered (read_safe (in_life_parts writes_place p n rec e (sym (holds_at_last rec e _) ∙ w)).0 i q)
          ]
        ]

  -- an access of the current life that is not ordered before e races with it, if one of the two writes
  pub write_race : (p i : ℕ) → touches e p ≡ true → writes_in rec p (lives rec p) i ≡ true → (Before rec e i → ⊥) → Race rec e p i
  write_race p i t w u =
      let n = lives rec p in
      let l = holds_at_within rec i _ w in
      record {
        accepted = l;
        conflict = writes_conflict (e ∷ rec) p n i (length rec) (holds_at_past rec e i _ l ∙ w) (holds_at_last rec e _ ∙ in_life_from touches p n rec e t refl);
        unordered = u;
      }

  pub read_race : (p i : ℕ) → writes_place e p ≡ true → reads_in rec p (lives rec p) i ≡ true → (Before rec e i → ⊥) → Race rec e p i
  read_race p i t w u =
      let n = lives rec p in
      let l = holds_at_within rec i _ w in
      record {
        accepted = l;
        conflict = write_conflicts (e ∷ rec) p n (length rec) i (holds_at_past rec e i _ l ∙ read_in_touches rec p n i w) (holds_at_last rec e _ ∙ in_life_from writes_place p n rec e t refl);
        unordered = u;
      }

  pub before_cases : (i : ℕ) → Before rec e i ⊎ (Before rec e i → ⊥)
  before_cases i =
      let decides = ordered_decides (e ∷ rec) i (length rec) in
      elim (cases_Bool (ordered (e ∷ rec) i (length rec))) [ inl q ↦ inl (decides.0 q) | inr q ↦ inr (not_from_Decides _ decides q) ]

  at_end : ((p i : ℕ) → Race rec e p i → ⊥) → (p n i : ℕ) → i < length rec → Conflict (e ∷ rec) p n i (length rec) → Before rec e i
  at_end none p n i l c =
      let same = (in_life_parts touches p n rec e (sym (holds_at_last rec e _) ∙ c.second)).1 in
      elim (before_cases i) [
        | inl b ↦ b
        | inr u ↦ absurd (none p i (record { accepted = l; conflict = subst (λ m. Conflict (e ∷ rec) p m i (length rec)) (sym same) c; unordered = u }))
      ]

  pub race_free_more : RaceFree rec → ((p i : ℕ) → Race rec e p i → ⊥) → RaceFree (e ∷ rec)
  race_free_more free none p n i j l c =
      let m = holds_at_within (e ∷ rec) j _ c.second in
      elim (cases_eq j (length rec)) [
        | inr q ↦ ordered_longer rec e (free p n i j l (conflict_shorter rec e p n i j (omega arith) (omega arith) c))
        | inl q ↦
            subst (λ x. Ordered (e ∷ rec) i x) (sym q) (at_end none p n i (omega arith) (subst (λ x. Conflict (e ∷ rec) p n i x) q c))
      ]
