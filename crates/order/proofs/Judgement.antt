-- Every answer of the judgement is right, and the record after it stays lawful and race-free. Assumes nothing.
use Rattle.std.proofs.Common.{◌≡◌, ℕ, ◌+◌, true, List, [], ◌∷◌, length, Some, None, Option, sym, refl, ap, ◌∙◌, subst, inl, inr, arith}
use Rattle.events.specs.declared.Event.{Event}
use Rattle.order.specs.Acts.{touches}
use Rattle.order.specs.Conflicts.{lives, RaceFree, Race}
use Rattle.order.specs.Faults.{fault, Lawful}
use Rattle.order.specs.Judgement.{Answer, accepted, refused, declined, witness, Finding, found, race, verdict, ruled, judge, recorded}
use Rattle.order.specs.Verdicts.{NoFault, Declined, Right}
use Rattle.order.proofs.Options.{option_cases, some_not_none, same_some}
use Rattle.order.proofs.Searches.{first_from_cases}
use Rattle.order.proofs.Records.{holds_at_last, holds_at_within}
use Rattle.order.proofs.Accesses.{in_life_parts}
use Rattle.order.proofs.Faults.{fault_cases, no_fault_iff, place_range}
use Rattle.order.proofs.Races.{race_free_more}
use Rattle.order.proofs.Witnesses.{witness_some, witness_none, witnessed_race}

found_some : (p : ℕ) (o : Option ℕ) (f : Finding) → found p o ≡ Some f → (p ≡ f.place) × (o ≡ Some f.witness)
found_some p None f h = absurd (some_not_none _ f h refl)
found_some p (Some i) f h =
    let same = same_some _ (record { place = p; witness = i }) f refl h in
    (ap (λ (x : Finding). x.place) same, ap (λ (x : Finding). Some x.witness) same)

found_none : (p : ℕ) (o : Option ℕ) → found p o ≡ None → o ≡ None
found_none p None h = refl
found_none p (Some i) h = absurd (some_not_none _ _ refl h)

module _ (rec : List Event) (e : Event) where
  pub race_touches : (p i : ℕ) → Race rec e p i → touches e p ≡ true
  race_touches p i r = (in_life_parts touches p (lives rec p) rec e (sym (holds_at_last rec e _) ∙ r.conflict.second)).0

  pub judge_refused : (n : ℕ) → fault rec e ≡ Some n → judge rec e ≡ refused n
  unfolding judge
  judge_refused n h = ap (λ o. ruled o (verdict (length rec) (race rec e))) h

  pub judge_declined : (f : Finding) → fault rec e ≡ None → race rec e ≡ Some f → judge rec e ≡ declined f.place (f.witness + 1)
  unfolding judge
  judge_declined f h q = λ d. ruled (h d) (verdict (length rec) (q d))

  pub judge_accepted : fault rec e ≡ None → race rec e ≡ None → judge rec e ≡ accepted (length rec + 1)
  unfolding judge
  judge_accepted h q = λ d. ruled (h d) (verdict (length rec) (q d))

  module _ (lawful : Lawful rec) (free : RaceFree rec) where
    no_race_at : (p : ℕ) → found p (witness rec e p) ≡ None → (i : ℕ) → Race rec e p i → ⊥
    no_race_at p h i r = witness_none rec e lawful free p (found_none p _ h) (race_touches p i r) i r

    no_race : NoFault rec e → race rec e ≡ None → (p i : ℕ) → Race rec e p i → ⊥
    unfolding race
    no_race none h p i r =
        elim (first_from_cases (λ q. found q (witness rec e q)) 64 0) [
          | inl f ↦ some_not_none _ _ f.1 h
          | inr f ↦ (let l = place_range rec e none p (race_touches p i r) in no_race_at p (f.1 p (omega arith) (omega arith)) i r)
        ]

    a_race : NoFault rec e → (f : Finding) → race rec e ≡ Some f → Declined rec e f.place (f.witness + 1)
    unfolding race
    a_race none f h =
        elim (first_from_cases (λ q. found q (witness rec e q)) 64 0) [
          | inr g ↦ absurd (some_not_none _ f h g.0)
          | inl g ↦
              let here = g.2 in
              let p = here.at in
              let is : found p (witness rec e p) ≡ Some f = here.is ∙ ap {B = Option Finding} Some (same_some _ _ f g.1 h) in
              let this = found_some p (witness rec e p) f is in
              let w = witness_some rec e f.place f.witness (ap (witness rec e) (sym this.0) ∙ this.1) in
              record {
                lawful = none;
                position = f.witness;
                serial = refl;
                witness = w;
                race = witnessed_race rec e f.place f.witness w;
                lowest = λ q i l. no_race_at q (here.none q (omega arith) (let same = this.0 in omega arith)) i;
              }
        ]

    pub judge_right : Right rec e (judge rec e)
    judge_right =
        elim (fault_cases rec e) [
          | inl r ↦ subst (Right rec e) (sym (judge_refused r.0 r.1)) r.2
          | inr r ↦ elim (option_cases (race rec e)) [
            | inl q ↦ subst (Right rec e) (sym (judge_accepted r.0 q)) (record { lawful = r.1; serial = refl; free = no_race r.1 q })
            | inr q ↦ subst (Right rec e) (sym (judge_declined q.0 r.0 q.1)) (a_race r.1 q.0 q.1)
          ]
        ]

    pub right_at : (a : Answer) → judge rec e ≡ a → Right rec e a
    right_at a h = subst (Right rec e) h judge_right

    pub accepted_free : (s : ℕ) → judge rec e ≡ accepted s → RaceFree (e ∷ rec)
    accepted_free s h = race_free_more rec e free (right_at (accepted s) h).free

    pub accepted_lawful : (s : ℕ) → judge rec e ≡ accepted s → Lawful (e ∷ rec)
    accepted_lawful s h = ((no_fault_iff rec e).1 (right_at (accepted s) h).lawful, lawful)

    -- whatever the answer, the record after it is lawful and race-free
    pub recorded_sound : Lawful (recorded rec e (judge rec e)) × RaceFree (recorded rec e (judge rec e))
    recorded_sound = go (judge rec e) refl
      where
        go : (a : Answer) → judge rec e ≡ a → Lawful (recorded rec e a) × RaceFree (recorded rec e a)
        go (accepted s) h = (accepted_lawful s h, accepted_free s h)
        go (refused n) h = (lawful, free)
        go (declined p s) h = (lawful, free)

pub nothing_races : RaceFree []
nothing_races p n i j l c = let m = holds_at_within [] j _ c.second in absurd (omega arith)
