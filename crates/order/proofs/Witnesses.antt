-- The witness that the judgement names is the one that the rule names; where it names none, there is no race. Assumes nothing.
use Rattle.std.proofs.Common.{◌≡◌, ℕ, ◌<◌, true, cond, eqb, List, ◌∷◌, length, Some, None, Option, sym, refl, ap, ◌∙◌, subst, inl, inr, arith}
use Rattle.std.proofs.lemmas.Bool.Decides.{not_from_Decides}
use Rattle.std.proofs.lemmas.Bool.{cases_Bool, cond-true, cond-false, and_parts, eqb-true, ltb-true}
use Rattle.events.specs.declared.Event.{Event}
use Rattle.order.specs.Acts.{writes_place, reads_place, touches}
use Rattle.order.specs.Records.{holds_at}
use Rattle.order.specs.Order.{ordered}
use Rattle.order.specs.Conflicts.{lives, in_life, reads_in, RaceFree, Race}
use Rattle.order.specs.Faults.{Lawful}
use Rattle.order.specs.Searches.{or_else}
use Rattle.order.specs.Judgement.{reads_by, latest_write, latest_read, unordered, unordered_read, witness}
use Rattle.order.specs.Verdicts.{LatestWrite, LatestRead, Before, Witnessed, by_write, by_read}
use Rattle.order.proofs.Options.{some_not_none, same_some, or_else_some, or_else_none, cond_some}
use Rattle.order.proofs.Searches.{first_from_cases}
use Rattle.order.proofs.Records.{holds_at_within, at_position}
use Rattle.order.proofs.Chains.{ordered_decides}
use Rattle.order.proofs.Latest.{latest_some, latest_is}
use Rattle.order.proofs.Accesses.{in_life_parts, in_life_weaker}
use Rattle.order.proofs.Races.{safe, write_race, read_race}
use Rattle.order.proofs.Faults.{lawful_thread}

-- the computed latest accesses are the latest ones
pub latest_write_iff : (rec : List Event) (p w : ℕ) → (latest_write rec p ≡ Some w → LatestWrite rec p w) × (LatestWrite rec p w → latest_write rec p ≡ Some w)
unfolding latest_write
latest_write_iff rec p w = (latest_some _ rec w, latest_is _ rec w)

pub latest_read_iff : (rec : List Event) (p t r : ℕ) → (latest_read rec p t ≡ Some r → LatestRead rec p t r) × (LatestRead rec p t r → latest_read rec p t ≡ Some r)
unfolding latest_read
latest_read_iff rec p t r = (latest_some _ rec r, latest_is _ rec r)

pub read_by_reads : (rec : List Event) (p n t i : ℕ) → holds_at rec i (in_life (reads_by t) p n) ≡ true → reads_in rec p n i ≡ true
unfolding reads_by
read_by_reads rec p n t i = in_life_weaker (reads_by t) reads_place rec p n i (λ e h. (and_parts (reads_place e p) (eqb e.thread t) h).0)

-- a reader is below 8
pub reader_range : (rec : List Event) → Lawful rec → (p n t i : ℕ) → holds_at rec i (in_life (reads_by t) p n) ≡ true → t < 8
unfolding reads_by
reader_range rec lawful p n t i h =
    let l = holds_at_within rec i _ h in
    let here = at_position rec i l in
    let a = here.1 in
    let small = ltb-true a.thread 8 (sym (here.2 _) ∙ lawful_thread rec lawful i l) in
    let mine = (in_life_parts (reads_by t) p n here.0 a (sym (here.2 _) ∙ h)).0 in
    let same = eqb-true a.thread t (and_parts (reads_place a p) (eqb a.thread t) mine).1 in
    omega arith

module _ (rec : List Event) (e : Event) where
  pub unordered_some : (o : Option ℕ) (i : ℕ) → unordered rec e o ≡ Some i → (o ≡ Some i) × (Before rec e i → ⊥)
  unfolding unordered
  unordered_some None i h = absurd (some_not_none _ i h refl)
  unordered_some (Some j) i h =
      elim (cases_Bool (ordered (e ∷ rec) j (length rec))) [
        | inl q ↦ absurd (some_not_none _ i h (cond-true _ _ _ q))
        | inr q ↦
            let same = sym (cond-false _ _ _ q) ∙ h in
            (same, subst (λ x. Before rec e x → ⊥) (same_some _ j i refl same) (not_from_Decides _ (ordered_decides (e ∷ rec) j (length rec)) q))
      ]

  pub unordered_none : (o : Option ℕ) (i : ℕ) → unordered rec e o ≡ None → o ≡ Some i → Before rec e i
  unfolding unordered
  unordered_none None i h q = absurd (some_not_none None i q refl)
  unordered_none (Some j) i h s =
      elim (cases_Bool (ordered (e ∷ rec) j (length rec))) [
        | inl q ↦ subst (λ x. Before rec e x) (same_some _ j i refl s) ((ordered_decides (e ∷ rec) j (length rec)).0 q)
        | inr q ↦ absurd (some_not_none _ j (cond-false _ _ _ q) h)
      ]

  writes_passed : (p : ℕ) → unordered rec e (latest_write rec p) ≡ None → (w : ℕ) → LatestWrite rec p w → Before rec e w
  writes_passed p h w m = unordered_none (latest_write rec p) w h ((latest_write_iff rec p w).1 m)

  read_witness : (p i : ℕ) → writes_place e p ≡ true → unordered rec e (latest_write rec p) ≡ None → unordered_read rec e p ≡ Some i → Witnessed rec e p i
  unfolding unordered_read
  read_witness p i w none h =
      elim (first_from_cases (λ t. unordered rec e (latest_read rec p t)) 8 0) [
        | inr r ↦ absurd (some_not_none _ i h r.0)
        | inl r ↦
            let found = r.2 in
            let t = found.at in
            let is : unordered rec e (latest_read rec p t) ≡ Some i = found.is ∙ ap {B = Option ℕ} Some (same_some _ _ i r.1 h) in
            let this = unordered_some (latest_read rec p t) i is in
            by_read t w (writes_passed p none) ((latest_read_iff rec p t i).0 this.0) this.1 (λ u x l m. unordered_none (latest_read rec p u) x (found.none u (omega arith) l) ((latest_read_iff rec p u x).1 m))
      ]

  pub witness_some : (p i : ℕ) → witness rec e p ≡ Some i → Witnessed rec e p i
  unfolding witness
  witness_some p i h =
      let o = unordered rec e (latest_write rec p) in
      let r = cond (writes_place e p) (unordered_read rec e p) None in
      let k = cond_some (touches e p) (or_else o r) i h in
      elim (or_else_some o r i k.1) [
        | inl q ↦ (let this = unordered_some (latest_write rec p) i q in by_write k.0 ((latest_write_iff rec p i).0 this.0) this.1)
        | inr q ↦ (let w = cond_some (writes_place e p) (unordered_read rec e p) i q.1 in read_witness p i w.0 q.0 w.1)
      ]

  pub witnessed_race : (p i : ℕ) → Witnessed rec e p i → Race rec e p i
  witnessed_race p i (by_write t m u) = write_race rec e p i t m.holds u
  witnessed_race p i (by_read t w writes m u first) = read_race rec e p i w (read_by_reads rec p (lives rec p) t i m.holds) u

  -- where no witness is named there is no race
  module _ (lawful : Lawful rec) (free : RaceFree rec) (p : ℕ) (none : witness rec e p ≡ None) where
    no_witness : touches e p ≡ true → (unordered rec e (latest_write rec p) ≡ None) × (cond (writes_place e p) (unordered_read rec e p) None ≡ None)
    unfolding witness
    no_witness t =
        or_else_none (unordered rec e (latest_write rec p)) (cond (writes_place e p) (unordered_read rec e p) None) (sym (cond-true (touches e p) _ None t) ∙ none)

    reads_passed : touches e p ≡ true → writes_place e p ≡ true → (t r : ℕ) → LatestRead rec p t r → Before rec e r
    unfolding unordered_read
    reads_passed h w t r m =
        let no_read = sym (cond-true (writes_place e p) (unordered_read rec e p) None w) ∙ (no_witness h).1 in
        elim (first_from_cases (λ u. unordered rec e (latest_read rec p u)) 8 0) [
          | inl f ↦ absurd (some_not_none _ _ f.1 no_read)
          | inr f ↦
              let small = reader_range rec lawful p (lives rec p) t r m.holds in
              unordered_none (latest_read rec p t) r (f.1 t (omega arith) (omega arith)) ((latest_read_iff rec p t r).1 m)
        ]

    pub witness_none : touches e p ≡ true → (i : ℕ) → Race rec e p i → ⊥
    witness_none t = safe rec e free p (writes_passed p (no_witness t).0) (reads_passed t)
