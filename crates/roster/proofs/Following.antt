-- A roster that is new and then notes each event that no number refuses says what the record does. Assumes nothing.
use Rattle.std.proofs.Common.{◌≡◌, ℕ, Bool, true, false, cond, not, ◌&&◌, ◌||◌, eqb, ltb, List, [], ◌∷◌, length, Some, None, Option, Result, sym, refl, ap, ◌∙◌, subst, inl, inr}
use Rattle.std.proofs.lemmas.Bool.{and_cases, or_parts, not-false, both_ways, lt-ltb}
use mathlib.Core.Path.{fun_ext}
use Rattle.events.specs.declared.Event.{Event}
use Rattle.order.specs.Acts.{is, operand, acquires, releases, forks, joins}
use Rattle.order.specs.Faults.{forked_before, joins_amiss, faults, rule, fault}
use Rattle.order.specs.Records.{started, ended, lock_holder}
use Rattle.order.specs.Verdicts.{NoFault}
use Rattle.order.proofs.Acts.{does_parts}
use Rattle.order.proofs.Faults.{no_fault_iff, forked_range, joined_range, acquired_range}
use Rattle.order.proofs.Roster.{started_none, started_more, ended_none, ended_more, lock_holder_none, lock_holder_more}
use Rattle.roster.specs.declared.fault.RuleFault.{RuleFault}
use Rattle.roster.specs.declared.roster.Roster.{Roster}
use Rattle.roster.specs.declared.roster.ThreadState.{ThreadState}
use Rattle.roster.specs.declared.roster.ThreadState.TheVariants.{Unstarted, Running, Ended}
use Rattle.roster.specs.Follows.{Fresh, Noted, Follows}
use Rattle.roster.specs.Numbers.{numbered, refused}
use Rattle.roster.specs.States.{has_begun, is_over, state_of}

-- the code's rule is the record's
pub rule_follows : (rec : List Event) (r : Roster) (e : Event) → Follows rec r → refused r (length rec) e ≡ fault rec e
rule_follows rec r e f =
    let starts = fun_ext f.starts in
    let ends = fun_ext f.ends in
    let locked = fun_ext f.locked in
    λ i. rule (starts i) (ends i) (locked i) (length rec) e

-- and so is what the code answers, where it counts the events
pub rule_tells : (rec : List Event) (r : Roster) (n : ℕ) (e : Event) (o : Result (Unit {0}) RuleFault) → Follows rec r → n ≡ length rec → numbered o ≡ refused r n e → numbered o ≡ fault rec e
rule_tells rec r n e o f count h = h ∙ ap (λ m. refused r m e) count ∙ rule_follows rec r e f

pub follows_none : (r : Roster) → Fresh r → Follows [] r
follows_none r fresh =
    record {
      starts = λ t. ap (λ (f : ℕ → Bool). f t) fresh.starts ∙ sym (started_none t);
      ends = λ t. ap (λ (f : ℕ → Bool). f t) fresh.ends ∙ sym (ended_none t);
      locked = λ l. ap (λ (f : ℕ → Option ℕ). f l) fresh.locked ∙ sym (lock_holder_none l);
    }

-- in plain tests: x in range, f forked, j joined, b begun, o over
starts_same : (x f j b : Bool) → (f ≡ true → x ≡ true) → (j ≡ true → b ≡ true) → (x && (f || j) || b) ≡ (f || b)
starts_same true true j b p q = refl
starts_same false true j b p q = absurd (both_ways false refl (p refl))
starts_same true false true b p q = sym (q refl)
starts_same false false true b p q = refl
starts_same true false false b p q = refl
starts_same false false false b p q = refl

ends_same : (x f j o : Bool) → (j ≡ true → x ≡ true) → (f ≡ true → o ≡ false) → (x && j || not f && o) ≡ (j || o)
ends_same true f true o p q = refl
ends_same false f true o p q = absurd (both_ways false refl (p refl))
ends_same true true false o p q = sym (q refl)
ends_same false true false o p q = sym (q refl)
ends_same true false false o p q = refl
ends_same false false false o p q = refl

in_range : (x a : Bool) → (a ≡ true → x ≡ true) → (x && a) ≡ a
in_range true a p = refl
in_range false true p = p refl
in_range false false p = refl

over_begun : (s : ThreadState) → has_begun s ≡ false → is_over s ≡ false
over_begun Unstarted h = refl
over_begun Running h = refl
over_begun Ended h = h

module _ (rec : List Event) (e : Event) (none : NoFault rec e) where
  -- a forked thread had not started, and a joined one had
  fork_fresh : (t : ℕ) → forks e t ≡ true → started rec t ≡ false
  unfolding faults forked_before
  fork_fresh t f =
      let d = does_parts 6 e t f in
      elim (and_cases (is 6 e) (started rec (operand e.action)) (none 4)) [
        | inl n ↦ absurd (both_ways (is 6 e) n d.0)
        | inr n ↦ subst (λ u. started rec u ≡ false) d.1 n
      ]

  join_started : (t : ℕ) → joins e t ≡ true → started rec t ≡ true
  unfolding faults joins_amiss
  join_started t j =
      let d = does_parts 7 e t j in
      let u = operand e.action in
      elim (and_cases (is 7 e) (eqb u e.thread || not (started rec u)) (none 5)) [
        | inl n ↦ absurd (both_ways (is 7 e) n d.0)
        | inr n ↦ subst (λ v. started rec v ≡ true) d.1 (not-false (started rec u) (or_parts (eqb u e.thread) (not (started rec u)) n).1)
      ]

pub follows_note : (rec : List Event) (e : Event) (r r' : Roster) → Follows rec r → fault rec e ≡ None → Noted r e r' → Follows (e ∷ rec) r'
follows_note rec e r r' f h noted =
    let none = (no_fault_iff rec e).0 h in
    record {
      starts = λ t.
          let at = ap (λ (g : ℕ → Bool). g t) noted.starts in
          let past = ap (λ b. ltb t 8 && (forks e t || joins e t) || b) (f.starts t) in
          at ∙ past ∙ starts_same (ltb t 8) (forks e t) (joins e t) (started rec t) (λ k. lt-ltb t 8 (forked_range rec e none t k)) (join_started rec e none t) ∙ sym (started_more rec e t);
      ends = λ t.
          let at = ap (λ (g : ℕ → Bool). g t) noted.ends in
          let past = ap (λ o. ltb t 8 && joins e t || not (forks e t) && o) (f.ends t) in
          let not-over : forks e t ≡ true → ended rec t ≡ false = λ k. sym (f.ends t) ∙ over_begun (state_of r t) (f.starts t ∙ fork_fresh rec e none t k) in
          at ∙ past ∙ ends_same (ltb t 8) (forks e t) (joins e t) (ended rec t) (λ k. lt-ltb t 8 (joined_range rec e none t k)) not-over ∙ sym (ended_more rec e t);
      locked = λ l.
          let at = ap (λ (g : ℕ → Option ℕ). g l) noted.locked in
          let past = ap (λ o. cond (ltb l 32 && acquires e l) (Some e.thread) (cond (releases e l) None o)) (f.locked l) in
          let near = ap (λ b. cond b (Some e.thread) (cond (releases e l) None (lock_holder rec l))) (in_range (ltb l 32) (acquires e l) (λ k. lt-ltb l 32 (acquired_range rec e none l k))) in
          at ∙ past ∙ near ∙ sym (lock_holder_more rec e l);
    }
