-- The sets of the slots: each accepted event's work keeps them just the holders that the slot's access has reached. Assumes nothing.
use Rattle.std.proofs.Common.{◌≡◌, ℕ, ◌<◌, true, false, ◌↔◌, List, [], ◌∷◌, length, Some, None, sym, refl, ap, ◌∙◌, subst, inl, inr, arith}
use Rattle.std.proofs.lemmas.Bool.{cases_Bool, cond-true, cond-false, false≢true, eqb-true, eq-eqb}
use Rattle.events.specs.declared.Event.{Event}
use Rattle.order.specs.Verdicts.{NoFault, Before}
use Rattle.order.specs.Holders.{Holder, of_thread, gives, Reached, holder_number, InRange}
use Rattle.order.specs.Slots.{slot_access, begins, forgets, Set, taken, given, InSlot, SlotSet}
use Rattle.order.proofs.Options.{option_cases, some_not_none, same_some}
use Rattle.order.proofs.Records.{holds_at_within}
use Rattle.order.proofs.Chains.{ordered_earlier}
use Rattle.order.proofs.Reach.{ordered_iff_reached, reached_more}
use Rattle.order.proofs.Faults.{thread_range}
use Rattle.order.proofs.Slots.{slot_access_step, slot_access_within, slot_access_none}
use Rattle.order.proofs.Passes.{has, SomeIn, pass_in_cases, pass_in_kept, pass_in_new, pass_out_cases, pass_out_kept, pass_out_new, pass_in, pass_out, worked, nobody, only}
use Rattle.order.proofs.HolderNumbers.{one_holder, takes_range, gives_range, taken_of, taken_or_own, given_of, given_or_own, takes_own, gives_own}

pub nobody_in : (p k : ℕ) → SlotSet [] p k nobody
nobody_in p k h l = (λ q. absurd (false≢true q), λ s. absurd (some_not_none _ _ s.is (slot_access_none p k)))

module _ (rec : List Event) (e : Event) (none : NoFault rec e) where
  -- the holder's number is the thread's, so that the event gives to it
  own_gives : (h : Holder) → InRange h → holder_number h ≡ e.thread → gives rec e h ≡ true
  own_gives h l q =
      subst (λ g. gives rec e g ≡ true) (one_holder (of_thread e.thread) h (thread_range rec e none) l (sym q)) (gives_own rec e)

  -- the holder's number is listed, so that the event gives to it
  listed_gives : (h : Holder) → InRange h → has (given e.action) (holder_number h) ≡ true → gives rec e h ≡ true
  listed_gives h l q =
      let r = given_of rec e (holder_number h) q in
      subst (λ g. gives rec e g ≡ true) (one_holder r.0 h (gives_range rec e none r.0 r.2) l r.1) r.2

  -- an event has reached, by itself, what it gives to
  pub reached_by_itself : (h : Holder) → Reached (e ∷ rec) (length rec) h ↔ (gives rec e h ≡ true)
  reached_by_itself h = (
    λ r.
        elim ((reached_more rec e (length rec) h).0 r) [
          | inl q ↦
              let inside = holds_at_within rec q.giver _ q.gives in
              absurd (elim q.from as (λ _. ⊥) [ inl same ↦ omega arith | inr c ↦ (let later = ordered_earlier rec c in omega arith) ])
          | inr q ↦ q.0
        ],
    λ q. (reached_more rec e (length rec) h).1 (inr (q, inl refl)),
  )

  -- the work on a set that the access w has filled: w still fills it
  module _ (w : ℕ) (l : w < length rec) (s : Set) (fills : (h : Holder) → InRange h → (s (holder_number h) ≡ true) ↔ Reached rec w h) where
    into : Set
    into = pass_in e.thread (taken e.action) s

    from_some : SomeIn (taken e.action) s → Before rec e w
    from_some q =
        let r = taken_of rec e q.0 q.1 in
        let inside = takes_range rec e none r.0 r.2 in
        (ordered_iff_reached rec e w l).1 (r.0, (fills r.0 inside).0 (ap s r.1 ∙ q.2), r.2)

    -- the thread is in the set after the passes in just if w is ordered before the event
    into_before : into e.thread ≡ true → Before rec e w
    unfolding into
    into_before q =
        elim (pass_in_cases e.thread (taken e.action) s e.thread q) [
          | inl r ↦
              (ordered_iff_reached rec e w l).1 (of_thread e.thread, (fills (of_thread e.thread) (thread_range rec e none)).0 r, takes_own rec e)
          | inr r ↦ from_some r.1
        ]

    before_into : Before rec e w → into e.thread ≡ true
    unfolding into
    before_into b =
        let q = (ordered_iff_reached rec e w l).0 b in
        let inside = takes_range rec e none q.0 q.2 in
        let held = (fills q.0 inside).1 q.1 in
        elim (taken_or_own rec e q.0 q.2) [
          | inl r ↦ pass_in_kept e.thread (taken e.action) s e.thread (ap s r ∙ held)
          | inr r ↦ pass_in_new e.thread (taken e.action) s (holder_number q.0, r, held)
        ]

    pub carried : (h : Holder) → InRange h → (pass_out e.thread (given e.action) (pass_in e.thread (taken e.action) s) (holder_number h) ≡ true) ↔ Reached (e ∷ rec) w h
    unfolding into
    carried h inside = (
      λ q.
          elim (pass_out_cases e.thread (given e.action) into (holder_number h) q) [
            | inl r ↦ elim (pass_in_cases e.thread (taken e.action) s (holder_number h) r) [
              | inl a ↦ (reached_more rec e w h).1 (inl ((fills h inside).0 a))
              | inr a ↦ (reached_more rec e w h).1 (inr (own_gives h inside a.0, inr (from_some a.1)))
            ]
            | inr r ↦ (reached_more rec e w h).1 (inr (listed_gives h inside r.0, inr (into_before r.1)))
          ],
      λ r.
          elim ((reached_more rec e w h).0 r) [
            | inl a ↦
                pass_out_kept e.thread (given e.action) into (holder_number h) (pass_in_kept e.thread (taken e.action) s (holder_number h) ((fills h inside).1 a))
            | inr a ↦
                let b : Before rec e w = elim a.1 as (λ _. Before rec e w) [ inl same ↦ absurd (omega arith) | inr c ↦ c ] in
                elim (given_or_own rec e h a.0) [
                  | inl same ↦ pass_out_kept e.thread (given e.action) into (holder_number h) (ap into (sym same) ∙ before_into b)
                  | inr listed ↦ pass_out_new e.thread (given e.action) into (holder_number h) listed (before_into b)
                ]
          ],
    )

  -- the work on a slot that the event begins
  begun : (h : Holder) → InRange h → (pass_out e.thread (given e.action) (only e.thread) (holder_number h) ≡ true) ↔ (gives rec e h ≡ true)
  begun h inside = (
    λ q.
        elim (pass_out_cases e.thread (given e.action) (only e.thread) (holder_number h) q) [
          | inl r ↦ own_gives h inside (eqb-true (holder_number h) e.thread r)
          | inr r ↦ listed_gives h inside r.0
        ],
    λ q.
        elim (given_or_own rec e h q) [
          | inl same ↦
              pass_out_kept e.thread (given e.action) (only e.thread) (holder_number h) (eq-eqb (holder_number h) e.thread (sym same))
          | inr listed ↦
              pass_out_new e.thread (given e.action) (only e.thread) (holder_number h) listed (eq-eqb e.thread e.thread refl)
        ],
  )

  -- the work on a set that has no holder
  module _ (s : Set) (bare : (h : Holder) → InRange h → s (holder_number h) ≡ true → ⊥) where
    into_bare : (h : Holder) → InRange h → pass_in e.thread (taken e.action) s (holder_number h) ≡ true → ⊥
    into_bare h inside q =
        elim (pass_in_cases e.thread (taken e.action) s (holder_number h) q) [
          | inl r ↦ bare h inside r
          | inr r ↦
              let g = taken_of rec e r.1.0 r.1.1 in
              bare g.0 (takes_range rec e none g.0 g.2) (ap s g.1 ∙ r.1.2)
        ]

    pub still_bare : (h : Holder) → InRange h → pass_out e.thread (given e.action) (pass_in e.thread (taken e.action) s) (holder_number h) ≡ true → ⊥
    still_bare h inside q =
        elim (pass_out_cases e.thread (given e.action) (pass_in e.thread (taken e.action) s) (holder_number h) q) [
          | inl r ↦ into_bare h inside r
          | inr r ↦ into_bare (of_thread e.thread) (thread_range rec e none) r.1
        ]

  nobody_out : (x : ℕ) → pass_out e.thread (given e.action) nobody x ≡ true → ⊥
  nobody_out x q =
      elim (pass_out_cases e.thread (given e.action) nobody x q) [ inl r ↦ false≢true r | inr r ↦ false≢true r.1 ]

-- a slot with an access holds what that has reached, and one without holds nothing
pub in_slot_iff : (rec : List Event) (p k w : ℕ) (h : Holder) → slot_access rec p k ≡ Some w → InSlot rec p k h ↔ Reached rec w h
in_slot_iff rec p k w h q = (
  λ i. subst (λ x. Reached rec x h) (same_some _ _ w i.is q) i.reached,
  λ r. record { access = w; is = q; reached = r },
)

pub in_slot_none : (rec : List Event) (p k : ℕ) (h : Holder) → slot_access rec p k ≡ None → InSlot rec p k h → ⊥
in_slot_none rec p k h q i = some_not_none _ _ i.is q

module _ (rec : List Event) (e : Event) (none : NoFault rec e) (p k : ℕ) (s : Set) (right : SlotSet rec p k s) where
  -- the slot, and the set after the work, where the event begins it, empties it, or keeps it
  after : Set → Set
  after x = pass_out e.thread (given e.action) x

  kept : Set
  kept = pass_in e.thread (taken e.action) s

  at_begin : begins e p k ≡ true → SlotSet (e ∷ rec) p k (after (only e.thread))
  unfolding after
  at_begin b h inside =
      let access = slot_access_step rec e p k ∙ cond-true (begins e p k) _ _ b in (
        λ q. (in_slot_iff (e ∷ rec) p k (length rec) h access).1 ((reached_by_itself rec e none h).1 ((begun rec e none h inside).0 q)),
        λ i. (begun rec e none h inside).1 ((reached_by_itself rec e none h).0 ((in_slot_iff (e ∷ rec) p k (length rec) h access).0 i)),
      )

  at_forget : begins e p k ≡ false → forgets e p k ≡ true → SlotSet (e ∷ rec) p k (after nobody)
  unfolding after
  at_forget b f h inside =
      let access = slot_access_step rec e p k ∙ cond-false (begins e p k) _ _ b ∙ cond-true (forgets e p k) _ _ f in
      (λ q. absurd (nobody_out rec e none (holder_number h) q), λ i. absurd (in_slot_none (e ∷ rec) p k h access i))

  at_keep : slot_access (e ∷ rec) p k ≡ slot_access rec p k → SlotSet (e ∷ rec) p k (after kept)
  unfolding after kept
  at_keep same h inside =
      elim (option_cases (slot_access rec p k)) [
        | inl q ↦ (
          λ r. absurd (still_bare rec e none s (λ g l t. in_slot_none rec p k g q ((right g l).0 t)) h inside r),
          λ i. absurd (in_slot_none (e ∷ rec) p k h (same ∙ q) i),
        )
        | inr q ↦
            let w = q.0 in
            let fills : (g : Holder) → InRange g → (s (holder_number g) ≡ true) ↔ Reached rec w g = λ g l. (λ t. (in_slot_iff rec p k w g q.1).0 ((right g l).0 t), λ t. (right g l).1 ((in_slot_iff rec p k w g q.1).1 t)) in
            let there = carried rec e none w (slot_access_within rec p k w q.1) s fills h inside in
            (λ t. (in_slot_iff (e ∷ rec) p k w h (same ∙ q.1)).1 (there.0 t), λ i. there.1 ((in_slot_iff (e ∷ rec) p k w h (same ∙ q.1)).0 i))
      ]

  -- every slot's set is kept right by the event's work
  pub slot_set_step : SlotSet (e ∷ rec) p k (worked e p k s)
  unfolding worked after kept
  slot_set_step =
      elim (cases_Bool (begins e p k)) [
        | inl b ↦ subst (SlotSet (e ∷ rec) p k) (ap after (sym (cond-true (begins e p k) _ _ b))) (at_begin b)
        | inr b ↦ elim (cases_Bool (forgets e p k)) [
          | inl f ↦
              subst (SlotSet (e ∷ rec) p k) (ap after (sym (cond-false (begins e p k) _ _ b ∙ cond-true (forgets e p k) _ _ f))) (at_forget b f)
          | inr f ↦
              subst (SlotSet (e ∷ rec) p k) (ap after (sym (cond-false (begins e p k) _ _ b ∙ cond-false (forgets e p k) _ _ f))) (at_keep (slot_access_step rec e p k ∙ cond-false (begins e p k) _ _ b ∙ cond-false (forgets e p k) _ _ f))
        ]
      ]
