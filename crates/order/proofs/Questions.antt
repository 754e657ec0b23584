-- What a slot stands for, and that a cell tells of its slot what the record tells. Assumes nothing.
use Rattle.std.proofs.Common.{◌≡◌, ℕ, suc, ◌+◌, ◌<◌, eqb, ltb, ◌↔◌, List, Some, None, Option, sym, refl, ap, ◌∙◌, arith}
use Rattle.std.proofs.lemmas.Bool.{cond-true, cond-false, eq-eqb, ne_eqb, ltb-true, lt-ltb}
use Rattle.std.proofs.lemmas.Bool.Decides.{same_from_decides}
use Rattle.events.specs.declared.Event.{Event}
use Rattle.order.specs.Holders.{of_thread, reached}
use Rattle.order.specs.Judgement.{latest_write, latest_read}
use Rattle.order.specs.Verdicts.{LatestWrite, LatestRead}
use Rattle.order.specs.Slots.{Set, since, slot_access}
use Rattle.order.specs.Cells.{serial_of, Cell}
use Rattle.order.specs.Questions.{access_told, slot_told, cell_told}
use Rattle.order.proofs.Options.{some_not_none, same_some, cond_some}
use Rattle.order.proofs.Witnesses.{latest_write_iff, latest_read_iff}
use Rattle.order.proofs.Reach.{reached_decides}
use Rattle.order.proofs.Sets.{in_slot_iff}

since_iff : (lw lr : Option ℕ) (i : ℕ) → (since lw lr ≡ Some i) ↔ ((lr ≡ Some i) × ((w : ℕ) → lw ≡ Some w → w < i))
since_iff None lr i = (λ h. (h, λ w q. absurd (some_not_none None w q refl)), λ h. h.0)
since_iff (Some x) None i = (λ h. absurd (some_not_none None i h refl), λ h. absurd (some_not_none None i h.0 refl))
since_iff (Some x) (Some r) i = (
  λ h.
      let k = cond_some (ltb x r) (Some r) i h in
      let newer = ltb-true x r k.0 in
      let read = same_some (Some r) r i refl k.1 in
      (k.1, λ w q. let write = same_some (Some x) x w refl q in omega arith),
  λ h.
      let newer = h.1 x refl in
      let read = same_some (Some r) r i refl h.0 in
      cond-true (ltb x r) (Some r) None (lt-ltb x r (omega arith)) ∙ h.0,
)

-- a write slot stands for the latest write, and a read slot for its thread's latest read, if that is newer
pub slot_stands : (rec : List Event) (p t i : ℕ) → ((slot_access rec p 0 ≡ Some i) ↔ LatestWrite rec p i) × ((slot_access rec p (suc t) ≡ Some i) ↔ (LatestRead rec p t i × ((w : ℕ) → LatestWrite rec p w → w < i)))
unfolding slot_access
slot_stands rec p t i =
    let newer = since_iff (latest_write rec p) (latest_read rec p t) i in
    let read = latest_read_iff rec p t i in (
      latest_write_iff rec p i,
      (
        λ h. let k = newer.0 h in (read.0 k.0, λ w m. k.1 w ((latest_write_iff rec p w).1 m)),
        λ h. newer.1 (read.1 h.0, λ w q. h.1 w ((latest_write_iff rec p w).0 q)),
      ),
    )

module _ (rec : List Event) (p k n : ℕ) (s : Set) (cell : Cell rec p k n s) (t : ℕ) (l : t < 8) where
  -- a thread is in the slot's set just if the slot's access has reached it
  pub thread_in : (w : ℕ) → slot_access rec p k ≡ Some w → s t ≡ reached rec w (of_thread t)
  thread_in w q =
      let right = cell.set (of_thread t) l in
      let slot = in_slot_iff rec p k w (of_thread t) q in
      same_from_decides (s t) (reached rec w (of_thread t)) (λ h. slot.0 (right.0 h), λ r. right.1 (slot.1 r)) (reached_decides rec w (of_thread t))

  told_at : (o : Option ℕ) → slot_access rec p k ≡ o → access_told rec t o ≡ cell_told n s t
  unfolding access_told
  told_at None q = sym (cond-true (eqb n 0) _ _ (eq-eqb n 0 (cell.serial ∙ ap serial_of q)))
  told_at (Some w) q =
      let same : n ≡ w + 1 = cell.serial ∙ ap serial_of q in
      (λ d. Some (record { serial = sym same d; reached = sym (thread_in w q) d })) ∙ sym (cond-false (eqb n 0) _ _ (ne_eqb n 0 (λ z. omega arith)))

  pub told_by_cell : slot_told rec p k t ≡ cell_told n s t
  told_by_cell = told_at (slot_access rec p k) refl
