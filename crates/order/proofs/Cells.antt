-- The judgement by cells is the judgement by the record; and what one more event does to a cell. Assumes nothing.
use Rattle.std.proofs.Common.{◌≡◌, ℕ, ◌+◌, ◌<◌, Bool, true, false, cond, ◌||◌, eqb, ◌↔◌, List, [], ◌∷◌, length, Some, None, Option, sym, refl, ap, ◌∙◌, inl, inr, arith}
use Rattle.std.proofs.lemmas.Bool.{cond-true, false≢true, or_cases, or_left, or_right, eqb-true, ne_eqb, eq-eqb}
use Rattle.std.proofs.lemmas.Bool.Decides.{same_from_decides}
use Rattle.events.specs.declared.Event.{Event}
use Rattle.order.specs.Acts.{touches, writes_place}
use Rattle.order.specs.Searches.{or_else}
use Rattle.order.specs.Order.{ordered}
use Rattle.order.specs.Conflicts.{RaceFree}
use Rattle.order.specs.Faults.{fault}
use Rattle.order.specs.Judgement.{unordered, Finding, found, race, verdict, ruled, judge, Answer, accepted, declined}
use Rattle.order.specs.Verdicts.{NoFault, Before}
use Rattle.order.specs.Holders.{Holder, of_thread, Reached, holder_number, InRange}
use Rattle.order.specs.Slots.{Set, slot_access, begins, forgets, changed, taken, SlotSet}
use Rattle.order.specs.Cells.{serial_of, Cell, some_in, arrived, pending, cell_read, cell_witness, cell_race}
use Rattle.order.proofs.Options.{mapped, mapped_or_else, mapped_cond}
use Rattle.order.proofs.Searches.{first_from_same, first_from_mapped}
use Rattle.order.proofs.Chains.{ordered_decides}
use Rattle.order.proofs.Reach.{ordered_iff_reached}
use Rattle.order.proofs.Faults.{thread_range, fault_cases}
use Rattle.order.proofs.Slots.{slot_access_step, slot_access_within, slot_access_none}
use Rattle.order.proofs.SlotWitness.{race_by_slots, slot_read, slot_witness, slot_race}
use Rattle.order.proofs.Passes.{has, SomeIn, worked, nobody}
use Rattle.order.proofs.HolderNumbers.{takes_range, taken_of, taken_or_own, takes_own}
use Rattle.order.proofs.Sets.{in_slot_iff, nobody_in, slot_set_step}

some_in_found : (hs : List ℕ) (s : Set) → some_in hs s ≡ true → SomeIn hs s
some_in_found [] s h = absurd (false≢true h)
some_in_found (k ∷ ks) s h =
    elim (or_cases (s k) (some_in ks s) h) [
      | inl q ↦ (k, or_left (eqb k k) _ (eq-eqb k k refl), q)
      | inr q ↦ (let r = some_in_found ks s q in (r.0, or_right (eqb k r.0) _ r.1, r.2))
    ]

some_in_from : (hs : List ℕ) (s : Set) (a : ℕ) → has hs a ≡ true → s a ≡ true → some_in hs s ≡ true
some_in_from [] s a h q = absurd (false≢true h)
some_in_from (k ∷ ks) s a h q =
    elim (or_cases (eqb k a) (has ks a) h) [
      | inl r ↦ or_left (s k) _ (ap s (eqb-true k a r) ∙ q)
      | inr r ↦ or_right (s k) _ (some_in_from ks s a r q)
    ]

shifted : (b : Bool) (w : ℕ) → mapped (λ x. x + 1) (cond b None (Some w)) ≡ cond b None (Some (w + 1))
shifted true w = refl
shifted false w = refl

-- a finding that names its witness by the serial
abbrev by_serial : Finding → Finding
by_serial f = record { place = f.place; witness = f.witness + 1 }

found_by_serial : (p : ℕ) (o : Option ℕ) → mapped by_serial (found p o) ≡ found p (mapped (λ w. w + 1) o)
found_by_serial p None = refl
found_by_serial p (Some w) = refl

-- the verdict on a search's finding, which names its witness by the serial
abbrev pub cell_verdict : ℕ → Option Finding → Answer
cell_verdict count None = accepted (count + 1)
cell_verdict count (Some f) = declined f.place f.witness

verdict_by_serial : (m : ℕ) (o : Option Finding) → verdict m o ≡ cell_verdict m (mapped by_serial o)
verdict_by_serial m None = refl
verdict_by_serial m (Some f) = refl

module _ (rec : List Event) (e : Event) (none : NoFault rec e) where
  -- an access has arrived at e just if it is ordered before e
  module _ (p k w : ℕ) (s : Set) (set : SlotSet rec p k s) (access : slot_access rec p k ≡ Some w) where
    reach : (h : Holder) → InRange h → (s (holder_number h) ≡ true) ↔ Reached rec w h
    reach h l = (
      λ q. (in_slot_iff rec p k w h access).0 ((set h l).0 q),
      λ r. (set h l).1 ((in_slot_iff rec p k w h access).1 r),
    )

    pub arrived_iff : (arrived e s ≡ true) ↔ Before rec e w
    unfolding arrived
    arrived_iff =
        let l = slot_access_within rec p k w access in (
          λ h.
              elim (or_cases (s e.thread) (some_in (taken e.action) s) h) [
                | inl q ↦
                    (ordered_iff_reached rec e w l).1 (of_thread e.thread, (reach (of_thread e.thread) (thread_range rec e none)).0 q, takes_own rec e)
                | inr q ↦
                    let a = some_in_found (taken e.action) s q in
                    let g = taken_of rec e a.0 a.1 in
                    (ordered_iff_reached rec e w l).1 (g.0, (reach g.0 (takes_range rec e none g.0 g.2)).0 (ap s g.1 ∙ a.2), g.2)
              ],
          λ b.
              let g = (ordered_iff_reached rec e w l).0 b in
              let held = (reach g.0 (takes_range rec e none g.0 g.2)).1 g.1 in
              elim (taken_or_own rec e g.0 g.2) [
                | inl q ↦ or_left (s e.thread) _ (ap s q ∙ held)
                | inr q ↦ or_right (s e.thread) _ (some_in_from (taken e.action) s (holder_number g.0) q held)
              ],
        )

    arrived_is : arrived e s ≡ ordered (e ∷ rec) w (length rec)
    arrived_is = same_from_decides (arrived e s) (ordered (e ∷ rec) w (length rec)) (arrived_iff.0, arrived_iff.1) (ordered_decides (e ∷ rec) w (length rec))

  pending_is : (p k n : ℕ) (s : Set) → Cell rec p k n s → (o : Option ℕ) → slot_access rec p k ≡ o → mapped (λ w. w + 1) (unordered rec e o) ≡ pending e n s
  unfolding pending unordered
  pending_is p k n s c None q = sym (cond-true _ None (Some n) (or_left (eqb n 0) _ (eq-eqb n 0 (c.serial ∙ ap serial_of q))))
  pending_is p k n s c (Some w) q =
      let same : n ≡ w + 1 = c.serial ∙ ap serial_of q in
      shifted (ordered (e ∷ rec) w (length rec)) w ∙ ap (λ b. cond b None (Some (w + 1))) (sym (arrived_is p k w s c.set q)) ∙ ap (λ m. cond (arrived e s) None (Some m)) (sym same) ∙ ap (λ b. cond (b || arrived e s) None (Some n)) (sym (ne_eqb n 0 (λ z. omega arith)))

  module _ (free : RaceFree rec) (n : ℕ → ℕ → ℕ) (s : ℕ → ℕ → Set) (cells : (p k : ℕ) → p < 64 → k < 9 → Cell rec p k (n p k) (s p k)) where
    cell_read_is : (p : ℕ) → p < 64 → mapped (λ w. w + 1) (slot_read rec e p) ≡ cell_read e (n p) (s p)
    unfolding slot_read cell_read
    cell_read_is p l =
        first_from_mapped (λ w. w + 1) (λ t. unordered rec e (slot_access rec p (t + 1))) 8 0 ∙ first_from_same _ _ 8 0 (λ t _ m. pending_is p (t + 1) (n p (t + 1)) (s p (t + 1)) (cells p (t + 1) l (omega arith)) (slot_access rec p (t + 1)) refl)

    cell_witness_is : (p : ℕ) → p < 64 → mapped (λ w. w + 1) (slot_witness rec e p) ≡ cell_witness e p (n p) (s p)
    unfolding slot_witness cell_witness
    cell_witness_is p l =
        let write = unordered rec e (slot_access rec p 0) in
        let read = cond (writes_place e p) (slot_read rec e p) None in
        let reads = mapped_cond (λ w. w + 1) (writes_place e p) (slot_read rec e p) ∙ ap (λ o. cond (writes_place e p) o None) (cell_read_is p l) in
        let writes = pending_is p 0 (n p 0) (s p 0) (cells p 0 l (omega arith)) (slot_access rec p 0) refl in
        mapped_cond (λ w. w + 1) (touches e p) (or_else write read) ∙ ap (λ o. cond (touches e p) o None) (mapped_or_else (λ w. w + 1) write read ∙ (λ d. or_else (writes d) (reads d)))

    cell_race_is : mapped by_serial (race rec e) ≡ cell_race e n s
    unfolding slot_race cell_race
    cell_race_is =
        ap (mapped by_serial) (race_by_slots rec e free) ∙ first_from_mapped by_serial (λ p. found p (slot_witness rec e p)) 64 0 ∙ first_from_same _ _ 64 0 (λ p _ l. found_by_serial p (slot_witness rec e p) ∙ ap (found p) (cell_witness_is p (omega arith)))

-- what the cells tell is what the record tells
pub judge_by_cells : (rec : List Event) (e : Event) → RaceFree rec → (n : ℕ → ℕ → ℕ) (s : ℕ → ℕ → Set) → ((p k : ℕ) → p < 64 → k < 9 → Cell rec p k (n p k) (s p k)) → judge rec e ≡ ruled (fault rec e) (cell_verdict (length rec) (cell_race e n s))
unfolding judge
judge_by_cells rec e free n s cells =
    elim (fault_cases rec e) [
      | inl f ↦ ap (λ o. ruled o (verdict (length rec) (race rec e))) f.1 ∙ sym (ap (λ o. ruled o (cell_verdict (length rec) (cell_race e n s))) f.1)
      | inr f ↦
          ap (ruled (fault rec e)) (verdict_by_serial (length rec) (race rec e) ∙ ap (cell_verdict (length rec)) (cell_race_is rec e f.1 free n s cells))
    ]

pub cell_start : (p k : ℕ) → Cell [] p k 0 nobody
cell_start p k = record { serial = sym (ap serial_of (slot_access_none p k)); set = nobody_in p k }

next_serial : (b f : Bool) (m : ℕ) (o : Option ℕ) → cond b (m + 1) (cond f 0 (serial_of o)) ≡ serial_of (cond b (Some m) (cond f None o))
next_serial true f m o = refl
next_serial false true m o = refl
next_serial false false m o = refl

-- one more event: the cell begins anew with its serial, is emptied, or stays, and its set is worked on
pub cell_step : (rec : List Event) (e : Event) → NoFault rec e → (p k n : ℕ) (s : Set) → Cell rec p k n s → Cell (e ∷ rec) p k (changed e p k (length rec + 1) 0 n) (worked e p k s)
cell_step rec e none p k n s c = record {
  serial = ap (changed e p k (length rec + 1) 0) c.serial ∙ next_serial (begins e p k) (forgets e p k) (length rec) (slot_access rec p k) ∙ sym (ap serial_of (slot_access_step rec e p k));
  set = slot_set_step rec e none p k s c.set;
}
