-- The agreement of the owner table with the keeper below, kept by each call. Assumes nothing.
use Rattle.std.proofs.Common.{◌≡◌, ℕ, ◌<◌, true, false, get_or, Some, None, Ok, Option, sym, ap, ◌∙◌, subst, inl, inr, arith}
use Rattle.std.proofs.lemmas.List.{get_or-replicate}
use Rattle.std.proofs.lemmas.Bool.{cases_eq, cases_lt, lt-ltb, le-ltb, eq-eqb, cond-true, cond-false}
use Rattle.keepers.specs.Meaning.{Meaning, is_slot, cleared, begun, forgotten, passed, begin_answer, forget_answer, ask_answer}
use Rattle.keepers.proofs.Laws.{sets_cleared, sets_begun_here, sets_begun_other, sets_forgotten_here, sets_forgotten_other, stays_passed, stays_empty}
use Rattle.keepers.proofs.Laws.{begin_in_range, forget_in_range, ask_taken}
use Rattle.shortcut.specs.Owners.{owner_at, no_owners, Remembers, Owned}
use Rattle.shortcut.specs.declared.owners.OwnerTable.{OwnerTable}

-- agreement

pub owned_none : (m : Meaning) (o : OwnerTable) → m ≡ cleared → o ≡ no_owners → Owned m o
owned_none m o empty none = record {
  owned = λ s t e. absurd (let n = ap (λ (x : OwnerTable). owner_at x s) none ∙ nobody s in let z : ◌≡◌ {A = ℕ} 0 1 = cc in omega arith);
  remembered = λ s h _ _. ap (λ (n : Meaning). n.sets s h) empty ∙ sets_cleared s h;
}
  where
    nobody : (s : ℕ) → owner_at no_owners s ≡ None
    nobody s = elim (cases_lt s 576) [
      | inl l ↦ cond-true (is_slot s) (get_or no_owners.owners s None) None (lt-ltb s 576 l) ∙ get_or-replicate 576 s None None l
      | inr l ↦ cond-false (is_slot s) (get_or no_owners.owners s None) None (le-ltb s 576 l)
    ]

-- the set of one slot changes, and what is remembered for the slot with it: somebody in the set, or nobody where it is empty
owned_written : (m m' : Meaning) (o o' : OwnerTable) (slot : ℕ) (v : Option ℕ) → slot < 576 → Remembers o o' slot v
    → ((t : ℕ) → v ≡ Some t → (t < 8) × (m'.sets slot t ≡ true)) → (v ≡ None → (h : ℕ) → m'.sets slot h ≡ false)
    → ((s h : ℕ) → (s ≡ slot → ⊥) → m'.sets s h ≡ m.sets s h) → Owned m o → Owned m' o'
owned_written m m' o o' slot v range written somebody nobody others owned = record {
  owned = λ s t e. elim (cases_eq s slot) [
    | inl same ↦ let h = somebody t (at_slot s (Some t) same e) in (omega arith, h.0, ap (λ n. m'.sets n t) same ∙ h.1)
    | inr other ↦ let h = owned.owned s t (sym (written.others s other) ∙ e) in (h.0, h.1, others s t other ∙ h.2)
  ];
  remembered = λ s h within e. elim (cases_eq s slot) [
    | inl same ↦ ap (λ n. m'.sets n h) same ∙ nobody (at_slot s None same e) h
    | inr other ↦ others s h other ∙ owned.remembered s h within (sym (written.others s other) ∙ e)
  ];
}
  where
    at_slot : (s : ℕ) (x : Option ℕ) → s ≡ slot → owner_at o' s ≡ x → v ≡ x
    at_slot s x same e = sym (written.here range) ∙ ap (λ n. owner_at o' n) (sym same) ∙ e

-- after each call, where the owners agreed before

pub agree_same : (m m' : Meaning) (o : OwnerTable) → m' ≡ m → Owned m o → Owned m' o
agree_same m m' o same owned = subst (λ (n : Meaning). Owned n o) (sym same) owned

pub agree_passed : (m m' : Meaning) (o : OwnerTable) (from to : ℕ) → m' ≡ passed m from to → Owned m o → Owned m' o
agree_passed m m' o from to effect owned = record {
  owned = λ s t e.
      let h = owned.owned s t e in
      (h.0, h.1, ap (λ (n : Meaning). n.sets s t) effect ∙ stays_passed m from to s t h.2);
  remembered = λ s h range e. ap (λ (n : Meaning). n.sets s h) effect ∙ stays_empty m from to s (λ k. owned.remembered s k range e) h;
}

pub agree_begun : (m m' : Meaning) (o o' : OwnerTable) (slot thread : ℕ) → m' ≡ begun m slot thread → begin_answer slot thread ≡ Ok tt
    → Remembers o o' slot (Some thread) → Owned m o → Owned m' o'
agree_begun m m' o o' slot thread effect done written owned =
    let (p, q) = begin_in_range slot thread done in
    subst (λ (n : Meaning). Owned n o') (sym effect)
    (owned_written m (begun m slot thread) o o' slot (Some thread) p written
    (λ t e. let same : t ≡ thread = cc in (omega arith, sets_begun_here slot thread p q m t ∙ eq-eqb t thread same))
    (λ e _. absurd (let z : ◌≡◌ {A = ℕ} 0 1 = cc in omega arith))
    (λ s h other. sets_begun_other slot thread p q m s h other)
    owned)

pub agree_forgotten : (m m' : Meaning) (o o' : OwnerTable) (slot : ℕ) → m' ≡ forgotten m slot → forget_answer slot ≡ Ok tt
    → Remembers o o' slot None → Owned m o → Owned m' o'
agree_forgotten m m' o o' slot effect done written owned =
    let p = forget_in_range slot done in
    subst (λ (n : Meaning). Owned n o') (sym effect)
    (owned_written m (forgotten m slot) o o' slot None p written
    (λ t e. absurd (let z : ◌≡◌ {A = ℕ} 0 1 = cc in omega arith))
    (λ _ h. sets_forgotten_here slot p m h)
    (λ s h other. sets_forgotten_other slot p m s h other)
    owned)

-- a yes to the owner is the answer from below
pub owner_answered : (m : Meaning) (o : OwnerTable) (slot holder : ℕ) → owner_at o slot ≡ Some holder → Owned m o → Ok true ≡ ask_answer m slot holder
owner_answered m o slot holder is owned =
    let h = owned.owned slot holder is in
    ap (λ b. Ok b) (sym h.2) ∙ sym (ask_taken m slot holder h.0 (let small = h.1 in omega arith))
