-- A list of calls, one call on and at its end; the count along it. Assumes nothing.
use Rattle.std.proofs.Common.{◌≡◌, ℕ, ◌+◌, ◌<◌, ◌≤◌, List, [], ◌∷◌, ◌++◌, length, get_or, drop, sym, ap, ◌∙◌, ap₂, arith}
use Rattle.std.proofs.lemmas.List.{at_drop_more, at_drop_all, append_assoc, append-nil}
use Rattle.keepers.specs.declared.calls.KeeperAnswer.{KeeperAnswer}
use Rattle.keepers.specs.declared.calls.KeeperCall.{KeeperCall}
use Rattle.keepers.specs.declared.calls.KeeperCall.TheVariants.{Clear, Begin, Forget, Pass, Ask, Count}
use Rattle.keepers.specs.Meaning.{Meaning}
use Rattle.keepers.specs.Calls.{answer_to, after, answers_to, after_all}
use Rattle.keepers.proofs.Laws.{passes_cleared, passes_begun, passes_forgotten, passes_within}

module _ (calls : List KeeperCall) (i : ℕ) (m : Meaning) where
  -- the call at i was made at m, and left m'
  pub after_more : (d : KeeperCall) (m' : Meaning) → i < length calls → m' ≡ after m (get_or calls i d) → after_all m' (drop (i + 1) calls) ≡ after_all m (drop i calls)
  after_more d m' l left = ap (λ (n : Meaning). after_all n (drop (i + 1) calls)) left ∙ sym (at_drop_more (after_all m) calls i d l)

  -- and its answer a joined those given before
  pub answers_more : (d : KeeperCall) (m' : Meaning) (given given' : List KeeperAnswer) (a : KeeperAnswer) → i < length calls
      → m' ≡ after m (get_or calls i d) → a ≡ answer_to m (get_or calls i d) → given' ≡ given ++ (a ∷ [])
      → given' ++ answers_to m' (drop (i + 1) calls) ≡ given ++ answers_to m (drop i calls)
  answers_more d m' given given' a l left says joins =
      let rest : List KeeperAnswer = answers_to (after m (get_or calls i d)) (drop (i + 1) calls) in
      ap₂ (λ (xs : List KeeperAnswer) (n : Meaning). xs ++ answers_to n (drop (i + 1) calls)) (joins ∙ ap (λ (x : KeeperAnswer). given ++ (x ∷ [])) says) left
      ∙ append_assoc given (answer_to m (get_or calls i d) ∷ []) rest
      ∙ ap (λ (ys : List KeeperAnswer). given ++ ys) (sym (at_drop_more (answers_to m) calls i d l))

  -- no call is left
  pub after_end : length calls ≤ i → after_all m (drop i calls) ≡ m
  after_end l = at_drop_all (after_all m) calls i l

  pub answers_end : (given : List KeeperAnswer) → length calls ≤ i → given ++ answers_to m (drop i calls) ≡ given
  answers_end given l = ap (λ (ys : List KeeperAnswer). given ++ ys) (at_drop_all (answers_to m) calls i l) ∙ append-nil given

-- no call takes the count past the limit

after_within : (m : Meaning) (c : KeeperCall) → m.passes ≤ 200000000 → (after m c).passes ≤ 200000000
after_within m Clear few = let e = passes_cleared in omega arith
after_within m (Begin slot thread) few = let e = passes_begun m slot thread in omega arith
after_within m (Forget slot) few = let e = passes_forgotten m slot in omega arith
after_within m (Pass from to) few = passes_within m from to few
after_within m (Ask slot holder) few = few
after_within m Count few = few

pub all_within : (m : Meaning) (cs : List KeeperCall) → m.passes ≤ 200000000 → (after_all m cs).passes ≤ 200000000
all_within m [] few = few
all_within m (c ∷ cs) few = all_within (after m c) cs (after_within m c few)

-- what a loop over the calls needs
pub ruleset driven = (after_more, answers_more, after_end, answers_end, all_within, passes_cleared)
