-- The judgement by slots: in a race-free record a thread's reads older than the latest write never witness. Assumes nothing.
use Rattle.std.proofs.Common.{◌≡◌, ℕ, ◌+◌, ◌≤◌, true, cond, ltb, List, ◌∷◌, length, Some, None, Option, sym, refl, ap, ◌∙◌, subst, inl, inr, add-one, arith}
use Rattle.std.proofs.lemmas.Bool.{cases_Bool, cond-true, cond-false, ltb-false}
use Rattle.events.specs.declared.Event.{Event}
use Rattle.order.specs.Acts.{writes_place, reads_place, touches}
use Rattle.order.specs.Conflicts.{lives, writes_in, reads_in, RaceFree}
use Rattle.order.specs.Judgement.{latest_write, latest_read, unordered, unordered_read, witness, found, race, Finding}
use Rattle.order.specs.Slots.{since, slot_access}
use Rattle.order.specs.Searches.{first_from, or_else}
use Rattle.order.proofs.Options.{or_else_same}
use Rattle.order.proofs.Searches.{first_from_same}
use Rattle.order.proofs.Records.{holds_at_within, at_position}
use Rattle.order.proofs.Acts.{write_not_read}
use Rattle.order.proofs.Chains.{chain_append, ordered_longer, ordered_decides}
use Rattle.order.proofs.Accesses.{in_life_parts, read_in_touches, write_conflicts}
use Rattle.order.proofs.Witnesses.{latest_write_iff, latest_read_iff, read_by_reads, unordered_none}

-- what e races with at p, sought in p's write slot and, for a write, in its read slots; and the lowest place with such a witness
unfoldable pub slot_read : List Event → Event → ℕ → Option ℕ
slot_read rec e p = first_from 8 0 (λ t. unordered rec e (slot_access rec p (t + 1)))

unfoldable pub slot_witness : List Event → Event → ℕ → Option ℕ
slot_witness rec e p =
    cond (touches e p) (or_else (unordered rec e (slot_access rec p 0)) (cond (writes_place e p) (slot_read rec e p) None)) None

unfoldable pub slot_race : List Event → Event → Option Finding
slot_race rec e = first_from 64 0 (λ p. found p (slot_witness rec e p))

-- no access is both a write and a read of the place
pub not_both : (rec : List Event) (p n i : ℕ) → writes_in rec p n i ≡ true → reads_in rec p n i ≡ true → ⊥
not_both rec p n i w r =
    let here = at_position rec i (holds_at_within rec i _ w) in
    let a = (in_life_parts writes_place p n here.0 here.1 (sym (here.2 _) ∙ w)).0 in
    let b = (in_life_parts reads_place p n here.0 here.1 (sym (here.2 _) ∙ r)).0 in
    write_not_read here.1 p a b

module _ (rec : List Event) (e : Event) (free : RaceFree rec) (p : ℕ) (none : unordered rec e (latest_write rec p) ≡ None) where
  -- a read not newer than the latest write is ordered before e
  old_read : (w t r : ℕ) → latest_write rec p ≡ Some w → latest_read rec p t ≡ Some r → r ≤ w → unordered rec e (Some r) ≡ None
  unfolding unordered
  old_read w t r hw hr l =
      let n = lives rec p in
      let write = ((latest_write_iff rec p w).0 hw).holds in
      let read = read_by_reads rec p n t r ((latest_read_iff rec p t r).0 hr).holds in
      let other : r ≡ w → ⊥ = λ q. not_both rec p n w write (subst (λ x. reads_in rec p n x ≡ true) q read) in
      let sooner = free p n r w (omega arith) (write_conflicts rec p n w r (read_in_touches rec p n r read) write) in
      let before = chain_append (ordered_longer rec e sooner) (unordered_none rec e (latest_write rec p) w none hw) in
      cond-true _ _ _ ((ordered_decides (e ∷ rec) r (length rec)).1 before)

  same_read : (t : ℕ) (lw lr : Option ℕ) → latest_write rec p ≡ lw → latest_read rec p t ≡ lr → unordered rec e lr ≡ unordered rec e (since lw lr)
  unfolding unordered
  same_read t None lr hw hr = refl
  same_read t (Some w) None hw hr = refl
  same_read t (Some w) (Some r) hw hr =
      elim (cases_Bool (ltb w r)) [
        | inl q ↦ ap (unordered rec e) (sym (cond-true (ltb w r) (Some r) None q))
        | inr q ↦ old_read w t r hw hr (ltb-false w r q) ∙ ap (unordered rec e) (sym (cond-false (ltb w r) (Some r) None q))
      ]

pub read_slot_access : (rec : List Event) (p t : ℕ) → slot_access rec p (t + 1) ≡ since (latest_write rec p) (latest_read rec p t)
unfolding slot_access
read_slot_access rec p t = ap (slot_access rec p) (add-one t)

module _ (rec : List Event) (e : Event) (free : RaceFree rec) where
  same_reads : (p : ℕ) → unordered rec e (latest_write rec p) ≡ None → unordered_read rec e p ≡ slot_read rec e p
  unfolding unordered_read slot_read
  same_reads p none =
      first_from_same _ _ 8 0 (λ t _ _. same_read rec e free p none t (latest_write rec p) (latest_read rec p t) refl refl ∙ ap (unordered rec e) (sym (read_slot_access rec p t)))

  pub witness_by_slots : (p : ℕ) → witness rec e p ≡ slot_witness rec e p
  unfolding witness slot_witness slot_access
  witness_by_slots p =
      ap (λ o. cond (touches e p) o None) (or_else_same (unordered rec e (latest_write rec p)) _ _ (λ q. ap (λ r. cond (writes_place e p) r None) (same_reads p q)))

  pub race_by_slots : race rec e ≡ slot_race rec e
  unfolding race slot_race
  race_by_slots = first_from_same _ _ 64 0 (λ p _ _. ap (found p) (witness_by_slots p))
