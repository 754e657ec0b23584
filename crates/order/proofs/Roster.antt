-- Threads and locks as the record grows; and that a lock's holder is always a running thread. Assumes nothing.
use Rattle.std.proofs.Common.{◌≡◌, ℕ, ◌<◌, true, false, cond, not, ◌||◌, eqb, ◌⊎◌, List, [], ◌∷◌, Some, None, sym, refl, ap, ◌∙◌, subst, inl, inr, arith}
use Rattle.std.proofs.lemmas.Bool.{cases_Bool, cond-true, cond-false, or_parts, or_right, or_from, and_parts, and_from, not-false, not-true, not_from_false, eq-eqb, both_ways}
use Rattle.events.specs.declared.Event.{Event}
use Rattle.order.specs.Acts.{is, operand, acquires, releases, forks, joins}
use Rattle.order.specs.Records.{started, ended, running, lock_holder}
use Rattle.order.specs.Faults.{held_by, not_running, joined_holds, faults, Lawful}
use Rattle.order.specs.Verdicts.{NoFault}
use Rattle.order.proofs.Options.{some_not_none, same_some}
use Rattle.order.proofs.Searches.{some_below_from}
use Rattle.order.proofs.Acts.{does_parts, one_kind}
use Rattle.order.proofs.Faults.{no_fault_iff, acquired_range}

pub started_none : (t : ℕ) → started [] t ≡ eqb t 0
unfolding started
started_none t = refl

pub started_more : (rec : List Event) (e : Event) (t : ℕ) → started (e ∷ rec) t ≡ (forks e t || started rec t)
unfolding started
started_more rec e t = refl

pub ended_none : (t : ℕ) → ended [] t ≡ false
unfolding ended
ended_none t = refl

pub ended_more : (rec : List Event) (e : Event) (t : ℕ) → ended (e ∷ rec) t ≡ (joins e t || ended rec t)
unfolding ended
ended_more rec e t = refl

pub lock_holder_none : (l : ℕ) → lock_holder [] l ≡ None
unfolding lock_holder
lock_holder_none l = refl

pub lock_holder_more : (rec : List Event) (e : Event) (l : ℕ) → lock_holder (e ∷ rec) l ≡ cond (acquires e l) (Some e.thread) (cond (releases e l) None (lock_holder rec l))
unfolding lock_holder
lock_holder_more rec e l = refl

-- a running thread runs on after an event that doesn't join it
runs_on : (rec : List Event) (e : Event) (t : ℕ) → running rec t ≡ true → joins e t ≡ false → running (e ∷ rec) t ≡ true
unfolding running
runs_on rec e t h j =
    let both = and_parts (started rec t) (not (ended rec t)) h in
    let go_on : started (e ∷ rec) t ≡ true = started_more rec e t ∙ or_right (forks e t) (started rec t) both.0 in
    let not-over : ended (e ∷ rec) t ≡ false = ended_more rec e t ∙ or_from (joins e t) (ended rec t) j (not-true (ended rec t) both.1) in
    and_from (started (e ∷ rec) t) (not (ended (e ∷ rec) t)) go_on (not_from_false (ended (e ∷ rec) t) not-over)

module _ (rec : List Event) (e : Event) (none : NoFault rec e) where
  -- the thread of an event that no number refuses runs
  pub thread_runs : running rec e.thread ≡ true
  unfolding faults not_running running
  thread_runs =
      let parts = or_parts (not (started rec e.thread)) (ended rec e.thread) (none 3) in
      and_from (started rec e.thread) (not (ended rec e.thread)) (not-false (started rec e.thread) parts.0) (not_from_false (ended rec e.thread) parts.1)

  -- and it joins no thread that holds a lock
  not_joined : (l t : ℕ) → l < 32 → lock_holder rec l ≡ Some t → joins e t ≡ false
  unfolding faults joined_holds
  not_joined l t m h =
      elim (cases_Bool (joins e t)) [
        | inr q ↦ q
        | inl q ↦
            let d = does_parts 7 e t q in
            let holds : held_by (lock_holder rec l) (operand e.action) ≡ true = ap (λ o. held_by o (operand e.action)) h ∙ eq-eqb t (operand e.action) (sym d.1) in
            absurd (both_ways _ (none 8) (and_from (is 7 e) _ d.0 (some_below_from 32 (λ k. held_by (lock_holder rec k) (operand e.action)) l m holds)))
      ]

  acquires_not_joins : (l t : ℕ) → acquires e l ≡ true → joins e t ≡ false
  acquires_not_joins l t a =
      elim (cases_Bool (joins e t)) [
        | inr q ↦ q
        | inl q ↦ (let z = one_kind 2 7 e (does_parts 2 e l a).0 (does_parts 7 e t q).0 in absurd (omega arith))
      ]

-- a lock's holder is a running thread, and only locks below 32 are held
pub holder_runs : (rec : List Event) → Lawful rec → (l t : ℕ) → lock_holder rec l ≡ Some t → (l < 32) × (running rec t ≡ true)
holder_runs [] lawful l t h = absurd (some_not_none _ t h (lock_holder_none l))
holder_runs (e ∷ rec) lawful l t h = go (cases_Bool (acquires e l)) (holder_runs rec lawful.1 l t)
  where
    none : NoFault rec e
    none = (no_fault_iff rec e).0 lawful.0

    go : (acquires e l ≡ true) ⊎ (acquires e l ≡ false) → (lock_holder rec l ≡ Some t → (l < 32) × (running rec t ≡ true)) → (l < 32) × (running (e ∷ rec) t ≡ true)
    go (inl a) ih =
        let same = same_some _ e.thread t (lock_holder_more rec e l ∙ cond-true _ _ _ a) h in
        let runs = runs_on rec e e.thread (thread_runs rec e none) (acquires_not_joins rec e none l e.thread a) in (
          acquired_range rec e none l a,
          subst (λ u. running (e ∷ rec) u ≡ true) same runs,
        )
    go (inr a) ih =
        let past = sym (lock_holder_more rec e l ∙ cond-false (acquires e l) _ _ a) ∙ h in
        elim (cases_Bool (releases e l)) [
          | inl r ↦ absurd (some_not_none _ t past (cond-true _ _ _ r))
          | inr r ↦
              let held = sym (cond-false (releases e l) _ _ r) ∙ past in
              let before = ih held in
              (before.0, runs_on rec e t before.1 (not_joined rec e none l t before.0 held))
        ]
