-- What the functions on the sets do to the meaning: each does what the keeper's call is to do. Assumes nothing.
use Rattle.std.proofs.Common.{◌≡◌, ℕ, ◌+◌, ◌<◌, ◌≤◌, false, eqb, List, length, Ok, Err, sym, refl, ap, ◌∙◌, subst, inl, inr, arith, slice_set}
use Rattle.std.proofs.lemmas.List.{get_or-set_same, get_or-set_other}
use Rattle.std.proofs.lemmas.Bool.{cases_eq}
use Rattle.keepers.specs.Meaning.{cleared, begun, forgotten, passed, pass_at, pass_answer, ask_answer}
use Rattle.keepers.specs.declared.fault.KeeperFault.{KeeperFault}
use Rattle.keepers.proofs.Laws.{cleared_from, begun_from, forgotten_from, passed_from, passed_refused, ask_taken}
use Rattle.keepers.proofs.Tables.{table_at, table_none, table_set, table_passed, none_within, only_within}
use Rattle.locksets.specs.Sets.{member, no_holder, with_holder, carried, Wide}
use Rattle.locksets.specs.Kept.{no_set, set_at, Carries, no_sets, locksets_mean}
use Rattle.locksets.specs.declared.keeper.Locksets.{Locksets}
use Rattle.locksets.specs.declared.set.LockSet.{LockSet}
use Rattle.locksets.proofs.Bits.{member_none, member_only, member_carried}

pub means_cleared : (k : Locksets) → k ≡ no_sets → locksets_mean k ≡ cleared
unfolding locksets_mean
means_cleared k e = ap locksets_mean e ∙ cleared_from (locksets_mean no_sets) (table_none no_set member no_holder (λ h _. member_none h)) refl

pub means_begun : (k : Locksets) (slot thread : ℕ) (set : LockSet) → slot < 576 → thread < 8 → slot < length k.sets → set ≡ with_holder no_holder thread
    → locksets_mean (record { sets = slice_set k.sets slot set; passes = k.passes }) ≡ begun (locksets_mean k) slot thread
unfolding locksets_mean
means_begun k slot thread set p q within only =
    begun_from slot thread p q (locksets_mean k) _
    (table_set no_set member k.sets slot set (λ x. eqb x thread) within p
    (only_within (member set) thread q (λ x _. ap (λ (t : LockSet). member t x) only ∙ member_only thread x q)))
    refl

pub means_forgotten : (k : Locksets) (slot : ℕ) (set : LockSet) → slot < 576 → slot < length k.sets → set ≡ no_holder
    → locksets_mean (record { sets = slice_set k.sets slot set; passes = k.passes }) ≡ forgotten (locksets_mean k) slot
unfolding locksets_mean
means_forgotten k slot set p within none =
    forgotten_from slot p (locksets_mean k) _
    (table_set no_set member k.sets slot set (λ _. false) within p
    (none_within (member set) (λ x _. ap (λ (t : LockSet). member t x) none ∙ member_none x)))
    refl

-- of a pass only the count matters
pub pass_answered : (k : Locksets) (from to : ℕ) → pass_answer (locksets_mean k) from to ≡ pass_at k.passes from to
unfolding locksets_mean pass_answer
pass_answered k from to = refl

pub pass_refused : (k : Locksets) (from to : ℕ) (e : KeeperFault) → pass_at k.passes from to ≡ Err e → passed (locksets_mean k) from to ≡ locksets_mean k
pass_refused k from to e refused = passed_refused (locksets_mean k) from to e (pass_answered k from to ∙ refused)

-- every set has been carried
pub means_passed : (k k' : Locksets) (from to : ℕ) → from < 136 → to < 136 → k.passes < 200000000
    → ((s : ℕ) → s < 576 → Carries k.sets k'.sets from to s) → k'.passes ≡ k.passes
    → locksets_mean (record { sets = k'.sets; passes = k'.passes + 1 }) ≡ passed (locksets_mean k) from to
unfolding locksets_mean
means_passed k k' from to p q few each same =
    passed_from (locksets_mean k) from to p q few _
    (table_passed no_set member member k.sets k'.sets from to p q
    (λ s h l _. let e = each s l in ap (λ (x : LockSet). member x h) e.0 ∙ member_carried _ from to h e.1))
    (ap (λ n. n + 1) same)

pub means_asked : (k : Locksets) (slot holder : ℕ) → slot < 576 → holder < 136 → ask_answer (locksets_mean k) slot holder ≡ Ok (member (set_at k.sets slot) holder)
unfolding locksets_mean
means_asked k slot holder p q = ask_taken (locksets_mean k) slot holder p q ∙ ap (λ x. Ok x) (table_at no_set member k.sets slot holder p q)

-- the sets xs, of which those before i have been carried and the others are as in old; then that of i is carried, to v
module _ (old xs : List LockSet) (i from to : ℕ) (v : LockSet) (l : i < length xs) where
  pub carried_more : ((s : ℕ) → s < i → Carries old xs from to s) → ((s : ℕ) → i ≤ s → set_at xs s ≡ set_at old s)
      → v ≡ carried (set_at xs i) from to → Wide (set_at xs i) to → (s : ℕ) → s < i + 1 → Carries old (slice_set xs i v) from to s
  carried_more passed rest is wide s k = elim (cases_eq s i) [
    | inl e ↦ let same : set_at xs i ≡ set_at old s = ap (set_at xs) (sym e) ∙ rest s (omega arith) in
        (ap (set_at (slice_set xs i v)) e ∙ get_or-set_same xs i v no_set l ∙ is ∙ ap (λ x. carried x from to) same, subst (λ x. Wide x to) same wide)
    | inr n ↦ let p = passed s (omega arith) in (get_or-set_other xs i s v no_set n ∙ p.0, p.1)
  ]

  pub rest_more : ((s : ℕ) → i ≤ s → set_at xs s ≡ set_at old s) → (s : ℕ) → i + 1 ≤ s → set_at (slice_set xs i v) s ≡ set_at old s
  rest_more rest s k = get_or-set_other xs i s v no_set (λ e. omega arith) ∙ rest s (omega arith)
