-- The refusal of an event is the first number that applies; and the ranges that no refusal leaves. Assumes nothing.
use Rattle.std.proofs.Common.{◌≡◌, ℕ, ◌<◌, Bool, true, false, cond, ◌&&◌, ◌||◌, ltb, leb, ◌⊎◌, ◌↔◌, List, [], ◌∷◌, length, Some, None, Option, sym, refl, ap, ◌∙◌, subst, inl, inr, zero-add, arith}
use Rattle.std.proofs.lemmas.Bool.{or_parts, and_cases, leb-false, both_ways, cases_eq, lt-ltb, or_left, or_right, or_cases, and_parts}
use Rattle.events.specs.declared.Event.{Event}
use Rattle.events.specs.Places.{member}
use Rattle.order.specs.Acts.{is, operand, acquires, write_set, read_set, does, writes_place, reads_place, touches}
use Rattle.order.specs.Records.{holds_at}
use Rattle.order.specs.Faults.{no_such_thread, no_such_thing, not_running, forked_before, joins_amiss, lock_held, lock_not_held, joined_holds, record_full, faults, faults_of, rule, fault, Lawful}
use Rattle.order.specs.Searches.{first_true}
use Rattle.order.specs.Verdicts.{FirstFault, NoFault}
use Rattle.order.proofs.Options.{some_not_none}
use Rattle.order.proofs.Searches.{first_true_cases}
use Rattle.order.proofs.Acts.{does_parts, member_place}
use Rattle.order.proofs.Records.{holds_at_last, holds_at_past}

module _ (rec : List Event) (e : Event) where
  pub fault_cases : ((n : ℕ) × (fault rec e ≡ Some n) × FirstFault rec e n) ⊎ ((fault rec e ≡ None) × NoFault rec e)
  unfolding rule
  fault_cases =
      elim (first_true_cases 0 (faults_of rec e)) [
        | inl r ↦ inl (r.0, r.1 ∙ ap {B = Option ℕ} Some (zero-add r.0), record { holds = r.2; first = r.3 })
        | inr r ↦ inr (r.0, r.1)
      ]

  pub no_fault_iff : (fault rec e ≡ None) ↔ NoFault rec e
  no_fault_iff = (
    λ h. elim fault_cases [ inl r ↦ absurd (some_not_none _ _ r.1 h) | inr r ↦ r.1 ],
    λ h. elim fault_cases [ inl r ↦ absurd (both_ways _ (h r.0) r.2.holds) | inr r ↦ r.0 ],
  )

-- the rule as one test after another
pub rule_is : (begun over : ℕ → Bool) (holders : ℕ → Option ℕ) (count : ℕ) (e : Event) → rule begun over holders count e ≡ cond (no_such_thread e) (Some 1) (cond (no_such_thing e) (Some 2) (cond (not_running begun over e) (Some 3) (cond (forked_before begun e) (Some 4) (cond (joins_amiss begun e) (Some 5) (cond (lock_held holders e) (Some 6) (cond (lock_not_held holders e) (Some 7) (cond (joined_holds holders e) (Some 8) (cond (record_full count) (Some 9) None))))))))
unfolding rule faults first_true
rule_is begun over holders count e = refl

-- a range test that does not refuse
within : (b : Bool) (k x : ℕ) → (b && leb k x) ≡ false → b ≡ true → x < k
within b k x h q = elim (and_cases b (leb k x) h) [ inl n ↦ absurd (both_ways b n q) | inr n ↦ leb-false k x n ]

module _ (rec : List Event) (e : Event) (none : NoFault rec e) where
  thread_tests : (leb 8 e.thread ≡ false) × (((is 6 e || is 7 e) && leb 8 (operand e.action)) ≡ false)
  unfolding faults no_such_thread
  thread_tests = or_parts (leb 8 e.thread) _ (none 1)

  pub thread_range : e.thread < 8
  thread_range = leb-false 8 e.thread thread_tests.0

  pub forked_range : (u : ℕ) → does 6 e u ≡ true → u < 8
  forked_range u h =
      let d = does_parts 6 e u h in
      subst (λ x. x < 8) d.1 (within (is 6 e || is 7 e) 8 _ thread_tests.1 (or_left (is 6 e) (is 7 e) d.0))

  pub joined_range : (u : ℕ) → does 7 e u ≡ true → u < 8
  joined_range u h =
      let d = does_parts 7 e u h in
      subst (λ x. x < 8) d.1 (within (is 6 e || is 7 e) 8 _ thread_tests.1 (or_right (is 6 e) (is 7 e) d.0))

  thing_tests : (((is 0 e || is 1 e) && leb 64 (operand e.action)) ≡ false) × (((is 2 e || is 3 e || is 4 e || is 5 e) && leb 32 (operand e.action)) ≡ false)
  unfolding faults no_such_thing
  thing_tests = or_parts ((is 0 e || is 1 e) && leb 64 (operand e.action)) _ (or_parts ((is 0 e || is 1 e) && leb 64 (operand e.action) || (is 2 e || is 3 e || is 4 e || is 5 e) && leb 32 (operand e.action)) _ (none 2)).0

  -- a lock or a flag
  pub lock_flag_range : (n x : ℕ) → does n e x ≡ true → (is 2 e || is 3 e || is 4 e || is 5 e) ≡ true → x < 32
  lock_flag_range n x h k =
      let d = does_parts n e x h in
      subst (λ y. y < 32) d.1 (within (is 2 e || is 3 e || is 4 e || is 5 e) 32 _ thing_tests.1 k)

  pub acquired_range : (l : ℕ) → acquires e l ≡ true → l < 32
  acquired_range l a =
      lock_flag_range 2 l a (or_left (is 2 e || is 3 e || is 4 e) _ (or_left (is 2 e || is 3 e) _ (or_left (is 2 e) _ (does_parts 2 e l a).0)))

  pub place_range : (p : ℕ) → touches e p ≡ true → p < 64
  unfolding touches writes_place reads_place
  place_range p h =
      elim (or_cases (writes_place e p) (reads_place e p) h) [
        | inl w ↦ elim (or_cases (does 1 e p) (is 9 e && member (write_set e.action) p) w) [
          | inl d ↦ (let k = does_parts 1 e p d in subst (λ x. x < 64) k.1 (within (is 0 e || is 1 e) 64 _ thing_tests.0 (or_right (is 0 e) (is 1 e) k.0)))
          | inr c ↦ member_place _ p (and_parts (is 9 e) (member (write_set e.action) p) c).1
        ]
        | inr r ↦ elim (or_cases (does 0 e p) _ r) [
          | inl d ↦ (let k = does_parts 0 e p d in subst (λ x. x < 64) k.1 (within (is 0 e || is 1 e) 64 _ thing_tests.0 (or_left (is 0 e) (is 1 e) k.0)))
          | inr c ↦ member_place (read_set e.action) p (and_parts (member (read_set e.action) p) _ (and_parts (is 9 e) _ c).1).0
        ]
      ]

-- in a lawful record every thread is below 8
pub lawful_thread : (rec : List Event) → Lawful rec → (i : ℕ) → i < length rec → holds_at rec i (λ past a. ltb a.thread 8) ≡ true
lawful_thread [] h i l = absurd (omega arith)
lawful_thread (e ∷ rec) h i l =
    elim (cases_eq i (length rec)) [
      | inl q ↦
          subst (λ x. holds_at (e ∷ rec) x (λ past a. ltb a.thread 8) ≡ true) (sym q) (holds_at_last rec e _ ∙ lt-ltb e.thread 8 (thread_range rec e ((no_fault_iff rec e).0 h.0)))
      | inr q ↦ holds_at_past rec e i _ (omega arith) ∙ lawful_thread rec h.1 i (omega arith)
    ]
