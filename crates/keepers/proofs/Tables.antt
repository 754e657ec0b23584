-- The sets of a table when it is made, after one entry is written, and after a pass. Assumes nothing.
use Rattle.std.proofs.Common.{◌≡◌, ℕ, ◌<◌, Bool, true, false, cond, ◌&&◌, ◌||◌, eqb, List, length, get_or, set, replicate, sym, refl, ap, ◌∙◌, inl, inr, arith}
use mathlib.Core.Bool.{and-false}
use Rattle.std.proofs.lemmas.List.{get_or-set_same, get_or-set_other, get_or-replicate}
use Rattle.std.proofs.lemmas.Bool.{cases_eq, cases_lt, lt-ltb, le-ltb, eq-eqb, ne_eqb, eqb-true, ltb-true, cond-true, cond-false}
use Rattle.keepers.specs.Meaning.{is_slot, is_holder}
use Rattle.keepers.specs.Tables.{table}

-- a set within the range of holders

pub none_within : (f : ℕ → Bool) → ((h : ℕ) → h < 136 → f h ≡ false) → (h : ℕ) → (is_holder h && f h) ≡ false
none_within f means h = elim (cases_lt h 136) [
  | inl l ↦ ap (λ b. is_holder h && b) (means h l) ∙ and-false (is_holder h)
  | inr l ↦ ap (λ b. b && f h) (le-ltb h 136 l)
]

pub only_within : (f : ℕ → Bool) (thread : ℕ) → thread < 8 → ((h : ℕ) → h < 136 → f h ≡ eqb h thread) → (h : ℕ) → (is_holder h && f h) ≡ eqb h thread
only_within f thread small means h = elim (cases_lt h 136) [
  | inl l ↦ ap (λ b. b && f h) (lt-ltb h 136 l) ∙ means h l
  | inr l ↦ ap (λ b. b && f h) (le-ltb h 136 l) ∙ sym (ne_eqb h thread (λ e. omega arith))
]

module _ {E : Type 0} (none : E) (has : E → ℕ → Bool) where
  -- in range the set is the entry's
  pub table_at : (xs : List E) (s h : ℕ) → s < 576 → h < 136 → table none has xs s h ≡ has (get_or xs s none) h
  table_at xs s h p q =
      ap (λ b. b && (is_holder h && has (get_or xs s none) h)) (lt-ltb s 576 p)
      ∙ ap (λ b. b && has (get_or xs s none) h) (lt-ltb h 136 q)

  -- one entry e, which stands for the set f, in every place
  pub table_none : (e : E) → ((h : ℕ) → h < 136 → has e h ≡ false) → (s h : ℕ) → table none has (replicate 576 e) s h ≡ false
  table_none e means s h = elim (cases_lt s 576) [
    | inl l ↦
        ap (λ b. b && (is_holder h && has (get_or (replicate 576 e) s none) h)) (lt-ltb s 576 l)
        ∙ ap (λ x. is_holder h && has x h) (get_or-replicate 576 s e none l)
        ∙ none_within (has e) means h
    | inr l ↦ ap (λ b. b && (is_holder h && has (get_or (replicate 576 e) s none) h)) (le-ltb s 576 l)
  ]

  -- the entry of one slot is replaced by e, which stands for the set f
  pub table_set : (xs : List E) (slot : ℕ) (e : E) (f : ℕ → Bool) → slot < length xs → slot < 576 → ((h : ℕ) → (is_holder h && has e h) ≡ f h)
      → (s h : ℕ) → table none has (set xs slot e) s h ≡ cond (eqb s slot) (f h) (table none has xs s h)
  table_set xs slot e f within range means s h = elim (cases_eq s slot) [
    | inl p ↦
        ap (λ n. table none has (set xs slot e) n h) p
        ∙ ap (λ x. is_slot slot && (is_holder h && has x h)) (get_or-set_same xs slot e none within)
        ∙ ap (λ b. b && (is_holder h && has e h)) (lt-ltb slot 576 range)
        ∙ means h
        ∙ sym (cond-true (eqb s slot) (f h) (table none has xs s h) (eq-eqb s slot p))
    | inr n ↦
        ap (λ x. is_slot s && (is_holder h && has x h)) (get_or-set_other xs slot s e none n)
        ∙ sym (cond-false (eqb s slot) (f h) (table none has xs s h) (ne_eqb s slot n))
  ]

-- a pass within the ranges: what is added to a set is in range
spread : (slot p is-to m a is-from : Bool) → is-from ≡ true → (is-to ≡ true → p ≡ true) → (slot && (p && (m || (is-to && a)))) ≡ ((slot && (p && m)) || (is-to && (slot && (is-from && a))))
spread true true is-to m a true f t = refl
spread true false false m a true f t = refl
spread true false true m a true f t = absurd (let e : false ≡ true = t refl in let z : ◌≡◌ {A = ℕ} 0 1 = cc in omega arith)
spread false p true m a true f t = refl
spread false p false m a true f t = refl
spread slot p is-to m a false f t = absurd (let z : ◌≡◌ {A = ℕ} 0 1 = cc in omega arith)

within_both : (slot holder x y : Bool) → (slot ≡ true → holder ≡ true → x ≡ y) → (slot && (holder && x)) ≡ (slot && (holder && y))
within_both true true x y same = same refl refl
within_both true false x y same = refl
within_both false holder x y same = refl

-- a pass, where the entries and what they stand for may both have changed
pub table_passed : {E : Type 0} (none : E) (has has' : E → ℕ → Bool) (xs ys : List E) (from to : ℕ) → from < 136 → to < 136
    → ((s h : ℕ) → s < 576 → h < 136 → has' (get_or ys s none) h ≡ (has (get_or xs s none) h || (eqb h to && has (get_or xs s none) from)))
    → (s h : ℕ) → table none has' ys s h ≡ (table none has xs s h || (eqb h to && table none has xs s from))
table_passed none has has' xs ys from to p q each s h =
    within_both (is_slot s) (is_holder h) _ _ (λ a b. each s h (ltb-true s 576 a) (ltb-true h 136 b))
    ∙ spread (is_slot s) (is_holder h) (eqb h to) (has (get_or xs s none) h) (has (get_or xs s none) from) (is_holder from) (lt-ltb from 136 p)
    (λ e. let same = eqb-true h to e in lt-ltb h 136 (omega arith))
