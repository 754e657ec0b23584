-- Accesses in a life, and conflicts of a record and of the longer one. Assumes nothing.
use Rattle.std.proofs.Common.{◌≡◌, ℕ, ◌<◌, Bool, true, ◌||◌, eqb, ◌⊎◌, List, ◌∷◌, length, sym, ◌∙◌, inl, inr}
use Rattle.std.proofs.lemmas.Bool.{and_parts, and_from, or_cases, or_left, or_right, eq-eqb, eqb-true}
use Rattle.events.specs.declared.Event.{Event}
use Rattle.order.specs.Acts.{writes_place, reads_place, touches}
use Rattle.order.specs.Records.{holds_at}
use Rattle.order.specs.Conflicts.{lives, in_life, writes_in, reads_in, touches_in, Conflict}
use Rattle.order.proofs.Records.{holds_at_past, holds_at_within, holds_at_weaker, at_position}

pub in_life_parts : (f : Event → ℕ → Bool) (p n : ℕ) (past : List Event) (e : Event) → in_life f p n past e ≡ true → (f e p ≡ true) × (lives past p ≡ n)
unfolding in_life
in_life_parts f p n past e h = let k = and_parts (f e p) (eqb (lives past p) n) h in (k.0, eqb-true (lives past p) n k.1)

pub in_life_from : (f : Event → ℕ → Bool) (p n : ℕ) (past : List Event) (e : Event) → f e p ≡ true → lives past p ≡ n → in_life f p n past e ≡ true
unfolding in_life
in_life_from f p n past e h q = and_from (f e p) (eqb (lives past p) n) h (eq-eqb _ _ q)

-- another test of the same access
pub in_life_weaker : (f g : Event → ℕ → Bool) (rec : List Event) (p n i : ℕ) → ((e : Event) → f e p ≡ true → g e p ≡ true) → holds_at rec i (in_life f p n) ≡ true → holds_at rec i (in_life g p n) ≡ true
in_life_weaker f g rec p n i w =
    holds_at_weaker rec i (in_life f p n) (in_life g p n) (λ past e h. let k = in_life_parts f p n past e h in in_life_from g p n past e (w e k.0) k.1)

touch_cases : (e : Event) (p : ℕ) → touches e p ≡ true → (writes_place e p ≡ true) ⊎ (reads_place e p ≡ true)
unfolding touches
touch_cases e p = or_cases (writes_place e p) (reads_place e p)

pub write_touches : (e : Event) (p : ℕ) → writes_place e p ≡ true → touches e p ≡ true
unfolding touches
write_touches e p = or_left (writes_place e p) (reads_place e p)

pub read_touches : (e : Event) (p : ℕ) → reads_place e p ≡ true → touches e p ≡ true
unfolding touches
read_touches e p = or_right (writes_place e p) (reads_place e p)

module _ (rec : List Event) (p n i : ℕ) where
  pub touches_in_cases : touches_in rec p n i ≡ true → (writes_in rec p n i ≡ true) ⊎ (reads_in rec p n i ≡ true)
  touches_in_cases h =
      let here = at_position rec i (holds_at_within rec i _ h) in
      let k = in_life_parts touches p n here.0 here.1 (sym (here.2 _) ∙ h) in
      elim (touch_cases here.1 p k.0) [
        | inl w ↦ inl (here.2 _ ∙ in_life_from writes_place p n here.0 here.1 w k.1)
        | inr r ↦ inr (here.2 _ ∙ in_life_from reads_place p n here.0 here.1 r k.1)
      ]

  pub write_in_touches : writes_in rec p n i ≡ true → touches_in rec p n i ≡ true
  write_in_touches = in_life_weaker writes_place touches rec p n i (λ e. write_touches e p)

  pub read_in_touches : reads_in rec p n i ≡ true → touches_in rec p n i ≡ true
  read_in_touches = in_life_weaker reads_place touches rec p n i (λ e. read_touches e p)

  pub writes_conflict : (j : ℕ) → writes_in rec p n i ≡ true → touches_in rec p n j ≡ true → Conflict rec p n i j
  writes_conflict j w t = record { first = write_in_touches w; second = t; write = or_left _ _ w }

  pub write_conflicts : (j : ℕ) → touches_in rec p n j ≡ true → writes_in rec p n i ≡ true → Conflict rec p n j i
  write_conflicts j t w = record { first = t; second = write_in_touches w; write = or_right _ _ w }

module _ (rec : List Event) (e : Event) (p n i j : ℕ) (l : i < length rec) (m : j < length rec) where
  pub conflict_shorter : Conflict (e ∷ rec) p n i j → Conflict rec p n i j
  conflict_shorter c = record {
    first = sym (holds_at_past rec e i _ l) ∙ c.first;
    second = sym (holds_at_past rec e j _ m) ∙ c.second;
    write = sym (λ d. holds_at_past rec e i (in_life writes_place p n) l d || holds_at_past rec e j (in_life writes_place p n) m d) ∙ c.write;
  }
