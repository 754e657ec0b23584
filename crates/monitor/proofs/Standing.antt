-- A monitor stands for the empty record at first, judges by what it holds, and stands for what it accepts. Assumes nothing.
use Rattle.std.proofs.Common.{◌≡◌, ℕ, ◌+◌, ◌*◌, ◌<◌, ◌≤◌, List, [], ◌∷◌, length, None, Ok, Err, Option, sym, ap, ◌∙◌, subst, arith}
use Rattle.std.proofs.lemmas.Bool.{leb-false}
use mathlib.Core.Path.{fun_ext}
use Rattle.events.specs.declared.Event.{Event}
use Rattle.keepers.specs.declared.keeper.Keeper.{Ghosts}
use Rattle.keepers.specs.Meaning.{cleared}
use Rattle.keepers.proofs.Laws.{sets_cleared, passes_cleared}
use Rattle.order.specs.Cells.{Cell, cell_race}
use Rattle.order.specs.Faults.{fault, faults, record_full}
use Rattle.order.specs.Judgement.{accepted, refused, Finding, judge, ruled}
use Rattle.order.specs.Slots.{changed}
use Rattle.order.specs.Verdicts.{NoFault}
use Rattle.order.specs.Work.{calls, passes_of}
use Rattle.order.proofs.Cells.{judge_by_cells, cell_start, cell_step, cell_verdict}
use Rattle.order.proofs.Faults.{no_fault_iff}
use Rattle.order.proofs.Judgement.{judge_refused, right_at, accepted_free, accepted_lawful, nothing_races}
use Rattle.order.proofs.PassCounts.{passes_of_few, passes_by_few}
use Rattle.order.proofs.Passes.{worked, nobody}
use Rattle.roster.specs.declared.fault.RuleFault.{RuleFault}
use Rattle.roster.specs.Follows.{Fresh, Noted}
use Rattle.roster.specs.Numbers.{fault_number, numbered, refused as roster_refused}
use Rattle.roster.proofs.Following.{rule_tells, follows_none, follows_note}
use Rattle.slots.specs.Bounds.{InBounds}
use Rattle.slots.specs.Made.{made, set_at, held_at}
use Rattle.slots.specs.Serials.{Numbered, serial_at}
use Rattle.slots.proofs.Effects.{made_sets, made_passes}
use Rattle.slots.proofs.Found.{race_in_range}
use Rattle.slots.proofs.Ranges.{in_bounds}
use Rattle.monitor.specs.declared.monitor.Monitor.{Monitor}
use Rattle.monitor.specs.Stands.{Stands}

-- a monitor over a cleared keeper, with a new roster and no serials
pub stands_none : {K : Type 0} {its : Ghosts K} (m : Monitor K its) → m.accepted ≡ 0 → Fresh m.roster → its.live m.slots.keeper → its.meaning m.slots.keeper ≡ cleared → ((p k : ℕ) → serial_at m.slots.serials p k ≡ 0) → Stands [] m
stands_none {its = its} m none fresh lives clear zeros = record {
  counts = none;
  few = omega arith;
  roster = follows_none m.roster fresh;
  lives = lives;
  passes = ap (λ x. x.passes) clear ∙ passes_cleared;
  spare = let none = ap (λ x. x.passes) clear ∙ passes_cleared in omega arith;
  cells = λ p k _ _.
      let set : set_at (its.meaning m.slots.keeper) p k ≡ nobody = fun_ext (λ h. ap (λ x. x.sets (9 * p + k) h) clear ∙ sets_cleared (9 * p + k) h) in
      subst (λ s. Cell [] p k (serial_at m.slots.serials p k) s) (sym set) (subst (λ n. Cell [] p k n nobody) (sym (zeros p k)) (cell_start p k));
  lawful = tt;
  free = nothing_races;
}

-- an event that is not refused finds room in the record
not_full : (rec : List Event) (e : Event) → NoFault rec e → length rec < 1000000
unfolding faults record_full
not_full rec e none = leb-false 1000000 (length rec) (none 9)

module _ {K : Type 0} {its : Ghosts K} {rec : List Event} {m : Monitor K its} (stands : Stands rec m) (e : Event) where
  by_cells : fault rec e ≡ None → judge rec e ≡ cell_verdict (length rec) (cell_race e (serial_at m.slots.serials) (set_at (its.meaning m.slots.keeper)))
  by_cells none =
      judge_by_cells rec e stands.free (serial_at m.slots.serials) (set_at (its.meaning m.slots.keeper)) stands.cells
      ∙ ap (λ o. ruled o (cell_verdict (length rec) (cell_race e (serial_at m.slots.serials) (set_at (its.meaning m.slots.keeper))))) none

  -- the refusal that the roster tells is the judgement's
  pub judged_refused : (f : RuleFault) → numbered (Err f) ≡ roster_refused m.roster m.accepted e → judge rec e ≡ refused (fault_number f)
  judged_refused f h = judge_refused rec e (fault_number f) (sym (rule_tells rec m.roster m.accepted e (Err f) stands.roster stands.counts h))

  -- where it tells none, the answer is by the race that is found, or that none is
  no_fault : numbered (Ok tt) ≡ roster_refused m.roster m.accepted e → fault rec e ≡ None
  no_fault h = sym (rule_tells rec m.roster m.accepted e (Ok tt) stands.roster stands.counts h)

  bounded : fault rec e ≡ None → InBounds e
  bounded none = in_bounds rec e ((no_fault_iff rec e).0 none)

  pub judged_by_race : numbered (Ok tt) ≡ roster_refused m.roster m.accepted e → (o : Option Finding) → o ≡ cell_race e (serial_at m.slots.serials) (held_at (its.meaning m.slots.keeper)) → judge rec e ≡ cell_verdict (length rec) o
  judged_by_race h o race =
      let none = no_fault h in
      by_cells none ∙ ap (cell_verdict (length rec)) (sym (race ∙ race_in_range e (bounded none) (serial_at m.slots.serials) (its.meaning m.slots.keeper)))

  -- what accepting the event makes of the monitor stands for the longer record
  pub stands_more : (m' : Monitor K its) (serial : ℕ) → judge rec e ≡ accepted serial → m'.accepted ≡ serial → Noted m.roster e m'.roster → its.live m'.slots.keeper → its.meaning m'.slots.keeper ≡ made (calls e) (its.meaning m.slots.keeper) → Numbered m.slots.serials m'.slots.serials (λ p k n. changed e p k serial 0 n) → Stands (e ∷ rec) m'
  stands_more m' serial took count noted lives work numbers =
      let took-right = right_at rec e stands.lawful stands.free (accepted serial) took in
      let none = took-right.lawful in
      let bounds = in_bounds rec e none in
      let old = its.meaning m.slots.keeper in
      let room = not_full rec e none in
      let least = passes_of_few e in
      let few : old.passes + passes_of e ≤ 200000000 = omega (arith, stands.spare) in
      let count-all = ap (λ x. x.passes) work ∙ made_passes e bounds old few ∙ ap (λ n. n + passes_of e) stands.passes in
      let all-few = passes_by_few (e ∷ rec) in
      record {
        counts = let next = took-right.serial in omega arith;
        few = omega arith;
        roster = follows_note rec e m.roster m'.roster stands.roster ((no_fault_iff rec e).1 none) noted;
        lives = lives;
        passes = count-all;
        spare = omega arith;
        cells = λ p k place slot.
            let set = ap (λ x. set_at x p k) work ∙ made_sets e bounds old few p k place slot in
            let number = numbers p k place slot ∙ ap (λ n. changed e p k n 0 (serial_at m.slots.serials p k)) took-right.serial in
            let cell = cell_step rec e none p k (serial_at m.slots.serials p k) (set_at old p k) (stands.cells p k place slot) in
            subst (λ s. Cell (e ∷ rec) p k (serial_at m'.slots.serials p k) s) (sym set) (subst (λ n. Cell (e ∷ rec) p k n (worked e p k (set_at old p k))) (sym number) cell);
        lawful = accepted_lawful rec e stands.lawful stands.free serial took;
        free = accepted_free rec e stands.lawful stands.free serial took;
      }
