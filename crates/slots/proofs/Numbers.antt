-- The serials after a write, read in range. Assumes nothing.
use Rattle.std.proofs.Common.{◌≡◌, ℕ, ◌<◌, ◌≤◌, cond, ◌&&◌, eqb, List, length, get_or, set, replicate, sym, ap, ◌∙◌, inl, inr, arith}
use Rattle.std.proofs.lemmas.List.{get_or-set_same, get_or-set_other, get_or-replicate}
use Rattle.std.proofs.lemmas.Bool.{cases_eq, cases_lt, lt-ltb, le-ltb, eq-eqb, ne_eqb, cond-true, cond-false, and_from, and_right}
use Rattle.keepers.specs.Meaning.{is_slot}
use Rattle.slots.specs.declared.serials.Serials.{Serials}
use Rattle.slots.specs.Serials.{number_at}

-- a row of numbers, read in range
abbrev pub number_in : List ℕ → ℕ → ℕ
number_in ns s = cond (is_slot s) (get_or ns s 0) 0

pub in_set : (ns : List ℕ) (slot v : ℕ) → slot < length ns → slot < 576 → (s : ℕ) → number_in (set ns slot v) s ≡ cond (is_slot slot && eqb s slot) v (number_in ns s)
in_set ns slot v within range s = elim (cases_eq s slot) [
  | inl e ↦
      cond-true (is_slot s) _ 0 (lt-ltb s 576 (omega arith))
      ∙ ap (λ n. get_or (set ns slot v) n 0) e
      ∙ get_or-set_same ns slot v 0 within
      ∙ sym (cond-true (is_slot slot && eqb s slot) v (number_in ns s) (and_from (is_slot slot) (eqb s slot) (lt-ltb slot 576 range) (eq-eqb s slot e)))
  | inr n ↦
      ap (λ x. cond (is_slot s) x 0) (get_or-set_other ns slot s v 0 n)
      ∙ sym (cond-false (is_slot slot && eqb s slot) v (number_in ns s) (and_right (is_slot slot) (eqb s slot) (ne_eqb s slot n)))
]

pub in_none : (s : ℕ) → number_in (replicate 576 0) s ≡ 0
in_none s = elim (cases_lt s 576) [
  | inl l ↦ cond-true (is_slot s) _ 0 (lt-ltb s 576 l) ∙ get_or-replicate 576 s 0 0 l
  | inr l ↦ cond-false (is_slot s) _ 0 (le-ltb s 576 l)
]

-- past the last slot there are none
pub number_past : (t : Serials) (s : ℕ) → 576 ≤ s → number_at t s ≡ 0
unfolding number_at
number_past t s l = cond-false (is_slot s) _ 0 (le-ltb s 576 l)
