-- What is told of an access is so. Assumes nothing.
use Rattle.std.proofs.Common.{◌≡◌, ℕ, ◌<◌, ◌+◌, suc, false, cond, ◌&&◌, ◌||◌, ltb, leb, List, length, Some, None, Ok, Option, Result, sym, refl, ap, ◌∙◌, subst, add-one}
use Rattle.std.proofs.lemmas.Bool.{lt-ltb, lt-leb, and_from, or_from, cond-true, cond-false}
use Rattle.std.specs.Prelude.{Decides}
use Rattle.events.specs.declared.Event.{Event}
use Rattle.events.specs.declared.Action.TheVariants.{Read}
use Rattle.order.specs.Acts.{by}
use Rattle.order.specs.Questions as questions
use Rattle.keepers.specs.declared.keeper.Keeper.{Ghosts}
use Rattle.order.specs.Questions.{access_told, slot_told, cell_told}
use Rattle.order.specs.Slots.{slot_access}
use Rattle.order.specs.Verdicts.{Before}
use Rattle.order.proofs.Options.{some_not_none, same_some}
use Rattle.order.proofs.Questions.{slot_stands, told_by_cell}
use Rattle.order.proofs.Reach.{reached_ordered}
use Rattle.order.proofs.Records.{holds_at_within}
use Rattle.slots.specs.declared.table.Told.{Told}
use Rattle.slots.specs.Made.{set_at}
use Rattle.slots.specs.Serials.{serial_at}
use Rattle.slots.specs.Told.{told_as}
use Rattle.monitor.specs.declared.monitor.Monitor.{Monitor}
use Rattle.monitor.specs.declared.verdict.Access.{Access}
use Rattle.monitor.specs.declared.verdict.Access.TheVariants as access
use Rattle.monitor.specs.declared.verdict.Question.{Question}
use Rattle.monitor.specs.Answers.{slot_of, no_reader, asked}
use Rattle.monitor.specs.Shown.{AskedOf, RightlyTold}
use Rattle.monitor.specs.Stands.{Stands}

-- a slot has the access that is asked of
slot_asked : (rec : List Event) (p : ℕ) (a : Access) (i : ℕ) → (slot_access rec p (slot_of a) ≡ Some i → AskedOf rec p a i) × (AskedOf rec p a i → slot_access rec p (slot_of a) ≡ Some i)
slot_asked rec p access.Write i = (slot_stands rec p 0 i).0
slot_asked rec p (access.Read t) i =
    let read = (slot_stands rec p t i).1 in
    let same : t + 1 ≡ suc t = add-one t in
    (λ h. read.0 (sym (ap (slot_access rec p) same) ∙ h), λ h. ap (slot_access rec p) same ∙ read.1 h)

-- and that is one of the record
asked_within : (rec : List Event) (p : ℕ) (a : Access) (i : ℕ) → AskedOf rec p a i → i < length rec
asked_within rec p access.Write i latest = holds_at_within rec i _ latest.holds
asked_within rec p (access.Read t) i latest = holds_at_within rec i _ latest.0.holds

pub rightly_told : (rec : List Event) (q : Question) (o : Option Told) → told_as o ≡ slot_told rec q.place (slot_of q.access) q.thread → RightlyTold rec q o
unfolding access_told
rightly_told rec q o told = at_access o (slot_access rec q.place (slot_of q.access)) refl told
  where
    at_access : (o : Option Told) (s : Option ℕ) → slot_access rec q.place (slot_of q.access) ≡ s → told_as o ≡ access_told rec q.thread s → RightlyTold rec q o
    at_access None None is told = λ i asked. some_not_none _ i ((slot_asked rec q.place q.access i).1 asked) is
    at_access None (Some i) is told = absurd (some_not_none None _ told refl)
    at_access (Some t) None is told = absurd (some_not_none None _ (sym told) refl)
    at_access (Some t) (Some i) is told =
        let asked = (slot_asked rec q.place q.access i).0 is in
        let same = same_some _ _ _ refl (sym told) in
        record {
          position = i;
          access = asked;
          serial = sym (ap (λ x. x.serial) same);
          reached = subst (λ b. Decides b (Before rec (by q.thread (Read q.place)) i)) (ap (λ x. x.reached) same) (reached_ordered rec i q.thread q.place (asked_within rec q.place q.access i asked));
        }

-- what the slots tell is what the record tells
pub told_by_slots : {K : Type 0} {its : Ghosts K} {rec : List Event} {m : Monitor K its} → Stands rec m → (p t slot : ℕ) (a : Access) (o : Option Told) → slot ≡ slot_of a → p < 64 → slot < 9 → t < 8 → told_as o ≡ cond (ltb p 64 && (ltb slot 9 && ltb t 8)) (cell_told (serial_at m.slots.serials p slot) (set_at (its.meaning m.slots.keeper) p slot) t) None → told_as o ≡ slot_told rec p (slot_of a) t
told_by_slots {rec = rec} stands p t slot a o is place in-slot thread told =
    let range = and_from (ltb p 64) (ltb slot 9 && ltb t 8) (lt-ltb p 64 place) (and_from (ltb slot 9) (ltb t 8) (lt-ltb slot 9 in-slot) (lt-ltb t 8 thread)) in
    let cell = stands.cells p slot place in-slot in
    told ∙ cond-true (ltb p 64 && (ltb slot 9 && ltb t 8)) _ _ range ∙ sym (told_by_cell rec p slot _ _ cell t thread) ∙ ap (λ k. slot_told rec p k t) is

-- and answers the question
pub asked_told : (rec : List Event) (p t : ℕ) (a : Access) (o : Option Told) → no_reader a ≡ false → p < 64 → t < 8 → told_as o ≡ slot_told rec p (slot_of a) t → ◌≡◌ {A = Result (Option questions.Told) ℕ} (Ok (told_as o)) (asked rec p a t)
asked_told rec p t a o reader place thread told =
    ap Ok told
    ∙ sym (cond-false (no_reader a || leb 8 t) _ _ (or_from (no_reader a) (leb 8 t) reader (lt-leb 8 t thread)) ∙ cond-false (leb 64 p) _ _ (lt-leb 64 p place))
