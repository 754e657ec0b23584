-- The vectors of all holders: as they start, one holder after another, and after a hand-over. Assumes nothing.
use Rattle.std.proofs.Common.{◌≡◌, ℕ, ◌+◌, ◌-◌, ◌<◌, ◌≤◌, min, max, cond, ◌&&◌, eqb, ltb, List, length, ◌++◌, get_or, set, drop, replicate, sym, ap, ◌∙◌, inl, inr, arith}
use Rattle.std.proofs.lemmas.List.{get_or-set_same, get_or-set_other, get_or_append_left, get_or-append_right, get_or_default, get_or-replicate, length-set}
use Rattle.std.proofs.lemmas.Bool.{cases_eq, cases_lt, lt-ltb, le-ltb, cond-true, cond-false, and_left, and_right, eq-eqb, ne_eqb}
use Rattle.std.proofs.lemmas.Bool.Decides.{nat_tests}
use Rattle.keepers.specs.Meaning.{is_thread}
use Rattle.clocks.specs.Vectors.{count_at, no_clock, heard_of, never_heard}
use Rattle.clocks.specs.Kept.{joined, moved}
use Rattle.clocks.specs.declared.vector.ClockVector.{ClockVector}

read : (cs : List ClockVector) (i t : ℕ) (x : ClockVector) → i < length cs → count_at (get_or cs i x) t ≡ heard_of cs i t
read cs i t x l = ap (λ v. count_at v t) (get_or_default cs i x no_clock l)

-- one vector is replaced
heard_set_same : (cs : List ClockVector) (i t : ℕ) (v : ClockVector) → i < length cs → heard_of (set cs i v) i t ≡ count_at v t
heard_set_same cs i t v l = ap (λ w. count_at w t) (get_or-set_same cs i v no_clock l)

heard_set_other : (cs : List ClockVector) (i h t : ℕ) (v : ClockVector) → (h ≡ i → ⊥) → heard_of (set cs i v) h t ≡ heard_of cs h t
heard_set_other cs i h t v n = ap (λ w. count_at w t) (get_or-set_other cs i h v no_clock n)

-- a row of zero vectors

zero : (t : ℕ) → count_at never_heard t ≡ 0
zero t = elim (cases_lt t 8) [
  | inl l ↦ cond-true (is_thread t) (get_or never_heard.counts t 0) 0 (lt-ltb t 8 l) ∙ get_or-replicate 8 t 0 0 l
  | inr l ↦ cond-false (is_thread t) (get_or never_heard.counts t 0) 0 (le-ltb t 8 l)
]

pub heard_zero : (v : ClockVector) → v ≡ never_heard → (h t : ℕ) → h < 136 → heard_of (replicate 136 v) h t ≡ cond (eqb h t && ltb h 0) 1 0
heard_zero v never h t l = ap (λ w. count_at w t) (get_or-replicate 136 h v no_clock l ∙ never) ∙ zero t ∙ sym (cond-false (eqb h t && ltb h 0) 1 0 (and_right (eqb h t) (ltb h 0) (le-ltb h 0 (omega arith))))

-- the first eight vectors have been written, and the others are as they were
pub heard_eight : (cs : List ClockVector) (v : ClockVector) (i : ℕ) → length cs ≡ 8 → 8 ≤ i → v ≡ never_heard
    → ((h t : ℕ) → h < 8 → t < 8 → heard_of cs h t ≡ cond (eqb h t && ltb h i) 1 0)
    → (h t : ℕ) → h < 136 → t < 8 → heard_of (cs ++ drop 8 (replicate 136 v)) h t ≡ cond (eqb h t) 1 0
heard_eight cs v i len past never each h t p k = elim (cases_lt h 8) [
  | inl l ↦ ap (λ w. count_at w t) (get_or_append_left cs (drop 8 (replicate 136 v)) no_clock h (omega (arith, len))) ∙ each h t l k ∙ below h t l
  | inr l ↦
      ap (λ w. count_at w t) (get_or-append_right cs (replicate 128 v) 8 h no_clock len l ∙ get_or-replicate 128 (h - 8) v no_clock (omega arith) ∙ sym (get_or-replicate 136 h v no_clock p))
      ∙ heard_zero v never h t p
      ∙ beyond h t l k
]
  where
    below : (h t : ℕ) → h < 8 → ◌≡◌ {A = ℕ} (cond (eqb h t && ltb h i) 1 0) (cond (eqb h t) 1 0)
    below h t l = grind (arith, nat_tests)

    beyond : (h t : ℕ) → 8 ≤ h → t < 8 → ◌≡◌ {A = ℕ} (cond (eqb h t && ltb h 0) 1 0) (cond (eqb h t) 1 0)
    beyond h t l k = grind (arith, nat_tests)

-- the own count of thread i moves on from 0
one_more : (h t i : ℕ) → t < 8 → h ≡ i → cond (is_thread t && eqb t i) (min (cond (eqb i t && ltb i i) 1 0 + 1) 4294967295) (cond (eqb i t && ltb i i) 1 0) ≡ cond (eqb h t && ltb h (i + 1)) 1 0
one_more h t i k e = grind (arith, nat_tests)

same_more : (h t i : ℕ) → (h ≡ i → ⊥) → ◌≡◌ {A = ℕ} (cond (eqb h t && ltb h i) 1 0) (cond (eqb h t && ltb h (i + 1)) 1 0)
same_more h t i n = grind (arith, nat_tests)

-- one vector more, of the first n
pub heard_more : {n : ℕ} → (cs : List ClockVector) (i : ℕ) (w z : ClockVector) → i < length cs → i < n
    → ((h t : ℕ) → h < n → t < 8 → heard_of cs h t ≡ cond (eqb h t && ltb h i) 1 0)
    → ((t : ℕ) → count_at w t ≡ cond (is_thread t && eqb t i) (min (count_at (get_or cs i z) t + 1) 4294967295) (count_at (get_or cs i z) t))
    → (h t : ℕ) → h < n → t < 8 → heard_of (set cs i w) h t ≡ cond (eqb h t && ltb h (i + 1)) 1 0
heard_more cs i w z l r each ticks h t p k = elim (cases_eq h i) [
  | inl e ↦
      ap (λ (m : ℕ). heard_of (set cs i w) m t) e
      ∙ heard_set_same cs i t w l
      ∙ ticks t
      ∙ ap (λ (m : ℕ). cond (is_thread t && eqb t i) (min (m + 1) 4294967295) m) (read cs i t z l ∙ each i t r k)
      ∙ one_more h t i k e
  | inr d ↦ heard_set_other cs i h t w d ∙ each h t p k ∙ same_more h t i d
]

-- b takes over what a has heard, to v, and then a's own count moves on, to w
module _ (cs : List ClockVector) (a b : ℕ) (v w : ClockVector) (p : a < length cs) (q : b < length cs) (joins : (t : ℕ) → count_at v t ≡ max (heard_of cs b t) (heard_of cs a t)) where
  joined_set : (h t : ℕ) → heard_of (set cs b v) h t ≡ joined (heard_of cs) a b h t
  joined_set h t = elim (cases_eq h b) [
    | inl e ↦ ap (λ (n : ℕ). heard_of (set cs b v) n t) e ∙ heard_set_same cs b t v q ∙ joins t ∙ sym (cond-true (eqb h b) _ (heard_of cs h t) (eq-eqb h b e))
    | inr n ↦ heard_set_other cs b h t v n ∙ sym (cond-false (eqb h b) _ (heard_of cs h t) (ne_eqb h b n))
  ]

  pub moved_set : ((t : ℕ) → count_at w t ≡ cond (is_thread t && eqb t a) (min (heard_of (set cs b v) a t + 1) 4294967295) (heard_of (set cs b v) a t))
      → (h t : ℕ) → heard_of (set (set cs b v) a w) h t ≡ moved (heard_of cs) a b h t
  moved_set ticks h t = elim (cases_eq h a) [
    | inl e ↦
        ap (λ (n : ℕ). heard_of (set (set cs b v) a w) n t) e
        ∙ heard_set_same (set cs b v) a t w (omega (arith, length-set cs b v))
        ∙ ticks t
        ∙ ap (λ (n : ℕ). cond (is_thread t && eqb t a) (min (n + 1) 4294967295) n) (joined_set a t ∙ ap (λ (n : ℕ). joined (heard_of cs) a b n t) (sym e))
        ∙ sym (ap (λ x. cond (x && (is_thread t && eqb t a)) (min (joined (heard_of cs) a b h t + 1) 4294967295) (joined (heard_of cs) a b h t)) (eq-eqb h a e))
    | inr n ↦
        heard_set_other (set cs b v) a h t w n
        ∙ joined_set h t
        ∙ sym (cond-false (eqb h a && (is_thread t && eqb t a)) _ (joined (heard_of cs) a b h t) (and_left (eqb h a) (is_thread t && eqb t a) (ne_eqb h a n)))
  ]
