-- Lists of calls on a keeper, one more at a time. Assumes nothing.
use Rattle.std.proofs.Common.{◌≡◌, ℕ, zero, suc, ◌+◌, ◌-◌, ◌<◌, ◌≤◌, min, Bool, true, false, cond, ◌||◌, List, [], ◌∷◌, ◌++◌, sym, refl, ap, ◌∙◌, inl, inr, append-nil, append_assoc, arith}
use lib.Bits.{bit_or}
use Rattle.std.proofs.lemmas.Bool.{cases_lt}
use Rattle.events.specs.Places.{member, those_below}
use Rattle.keepers.specs.Meaning.{Meaning, forgotten, passed}
use Rattle.keepers.proofs.Laws.{passed_same}
use Rattle.events.specs.declared.Event.{Event}
use Rattle.order.specs.Slots.{taken, given}
use Rattle.order.specs.Work.{Call, forget_from, written, looked_at, committed, accesses, calls}
use Rattle.slots.specs.Made.{called, made, passes_in, passes_out}
use Rattle.slots.specs.HoldersLeft.{capped}
use Rattle.events.proofs.Counts.{member_or}

pub made_append : (cs ds : List Call) (m : Meaning) → made (cs ++ ds) m ≡ made ds (made cs m)
made_append [] ds m = refl
made_append (c ∷ cs) ds m = made_append cs ds (called c m)

-- a holder past a byte's end is refused, whichever number it has
same_holder : (h : ℕ) → (min h 255 < 136 → h < 136) × (h < 136 → min h 255 ≡ h)
same_holder h = (λ l. omega arith, λ l. omega arith)

capped_from : (m : Meaning) (h t : ℕ) → passed m (min h 255) t ≡ passed m h t
capped_from m h t = elim (cases_lt h 136) [
  | inl l ↦ ap (λ a. passed m a t) ((same_holder h).1 l)
  | inr l ↦ passed_same m (min h 255) t (λ a b. omega arith) ∙ sym (passed_same m h t (λ a b. omega arith))
]

capped_to : (m : Meaning) (t h : ℕ) → passed m t (min h 255) ≡ passed m t h
capped_to m t h = elim (cases_lt h 136) [
  | inl l ↦ ap (λ a. passed m t a) ((same_holder h).1 l)
  | inr l ↦ passed_same m t (min h 255) (λ a b. omega arith) ∙ sym (passed_same m t h (λ a b. omega arith))
]

pub capped_in : (t : ℕ) (hs : List ℕ) (m : Meaning) → made (passes_in t (capped hs)) m ≡ made (passes_in t hs) m
capped_in t [] m = refl
capped_in t (h ∷ hs) m = capped_in t hs (passed m (min h 255) t) ∙ ap (made (passes_in t hs)) (capped_from m h t)

pub capped_out : (t : ℕ) (hs : List ℕ) (m : Meaning) → made (passes_out t (capped hs)) m ≡ made (passes_out t hs) m
capped_out t [] m = refl
capped_out t (h ∷ hs) m = capped_out t hs (passed m t (min h 255)) ∙ ap (made (passes_out t hs)) (capped_to m t h)

-- the steps of the loop that forgets the slots below an end
pub forget_more : (end i : ℕ) (m : Meaning) → i < end → made (forget_from (end - i) i) m ≡ made (forget_from (end - (i + 1)) (i + 1)) (forgotten m i)
unfolding forget_from
forget_more end i m l =
    let more : end - i ≡ suc (end - (i + 1)) = omega arith in
    ap (λ n. made (forget_from n i) m) more

pub forget_ends : (end i : ℕ) (m : Meaning) → end ≤ i → made (forget_from (end - i) i) m ≡ m
unfolding forget_from
forget_ends end i m l = let none : end - i ≡ 0 = omega arith in ap (λ n. made (forget_from n i) m) none

-- a commit's accesses of the places of its sets: it reads those that it does not write
abbrev at_place : ℕ → ℕ → ℕ → List Call
at_place t w p = cond (member w p) (written t p) (looked_at t p)

abbrev pub commits : ℕ → ℕ → List ℕ → List Call
commits t w [] = []
commits t w (p ∷ ps) = at_place t w p ++ commits t w ps

commits_append : (t w : ℕ) (ps : List ℕ) (p : ℕ) → commits t w (ps ++ p ∷ []) ≡ commits t w ps ++ at_place t w p
commits_append t w [] p = append-nil (at_place t w p)
commits_append t w (q ∷ ps) p = ap (λ cs. at_place t w q ++ cs) (commits_append t w ps p) ∙ sym (append_assoc (at_place t w q) (commits t w ps) (at_place t w p))

pub commits_all : (n t r w : ℕ) → committed n t r w ≡ commits t w (those_below n (member (bit_or r w)))
unfolding committed those_below
commits_all zero t r w = refl
commits_all (suc n) t r w =
    ap (λ cs. cs ++ cond (member w n) (written t n) (cond (member r n) (looked_at t n) [])) (commits_all n t r w)
    ∙ ap (λ cs. commits t w ps ++ cs) (either (member r n) (member w n))
    ∙ last (member r n || member w n)
    ∙ ap (λ b. commits t w (ps ++ cond b (n ∷ []) [])) (sym (member_or r w n))
  where
    ps : List ℕ
    ps = those_below n (member (bit_or r w))

    either : (x y : Bool) → cond y (written t n) (cond x (looked_at t n) []) ≡ cond (x || y) (cond y (written t n) (looked_at t n)) []
    either true y = refl
    either false true = refl
    either false false = refl

    last : (b : Bool) → commits t w ps ++ cond b (at_place t w n) [] ≡ commits t w (ps ++ cond b (n ∷ []) [])
    last true = sym (commits_append t w ps n)
    last false = append-nil (commits t w ps) ∙ ap (commits t w) (sym (append-nil ps))

module _ (t w p : ℕ) (ps : List ℕ) (m : Meaning) where
  pub commits_write : member w p ≡ true → made (commits t w (p ∷ ps)) m ≡ made (commits t w ps) (made (written t p) m)
  commits_write is = ap (λ b. made (cond b (written t p) (looked_at t p) ++ commits t w ps) m) is ∙ made_append (written t p) (commits t w ps) m

  pub commits_read : member w p ≡ false → made (commits t w (p ∷ ps)) m ≡ made (commits t w ps) (made (looked_at t p) m)
  commits_read is = ap (λ b. made (cond b (written t p) (looked_at t p) ++ commits t w ps) m) is ∙ made_append (looked_at t p) (commits t w ps) m

-- passes to the thread, accesses, passes from the thread: all calls of the event
pub all_made : (e : Event) (ins outs : List ℕ) (m₀ m₁ m₂ m₃ : Meaning) → ins ≡ capped (taken e.action) → outs ≡ capped (given e.action) → m₁ ≡ made (passes_in e.thread ins) m₀ → m₂ ≡ made (accesses e.thread e.action) m₁ → m₃ ≡ made (passes_out e.thread outs) m₂ → m₃ ≡ made (calls e) m₀
unfolding calls
all_made e ins outs m₀ m₁ m₂ m₃ to_in to_out first second third =
    let t = e.thread in
    let a = e.action in
    let before : m₁ ≡ made (passes_in e.thread (taken e.action)) m₀ = first ∙ ap (λ hs. made (passes_in e.thread hs) m₀) to_in ∙ capped_in t (taken a) m₀ in
    let after : m₃ ≡ made (passes_out e.thread (given e.action)) m₂ = third ∙ ap (λ hs. made (passes_out e.thread hs) m₂) to_out ∙ capped_out t (given a) m₂ in
    after
    ∙ ap (made (passes_out t (given a))) (second ∙ ap (made (accesses t a)) before)
    ∙ sym (made_append (passes_in t (taken a)) (accesses t a ++ passes_out t (given a)) m₀ ∙ made_append (accesses t a) (passes_out t (given a)) (made (passes_in t (taken a)) m₀))
