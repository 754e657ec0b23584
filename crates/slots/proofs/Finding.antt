-- What `find_map` finds over an iterator whose items are known. Assumes nothing.
use Rattle.std.proofs.Common.{◌≡◌, ℕ, zero, suc, ◌+◌, ◌<◌, true, Some, None, Option, IsTrue, List, [], ◌∷◌, ◌++◌, length, drop, sym, refl, ap, ◌∙◌, subst, arith}
use denote.Param.Members.{Mut, Called}
use Rattle.std.specs.Iterator.{DrainsIf}
use Rattle.std.specs.Iterator.Runs.{SomeRun, YieldsRun, CallKeepsClosure, AllItemsGive, IsFirstToGive}
use Rattle.std.specs.List.{slice_get}
use Rattle.std.specs.Option.{MatchOption, IfSome, IsSomeAnd}
use Rattle.std.proofs.lemmas.Iterator.{YieldsList}
use Rattle.std.proofs.lemmas.Iterator.Consumers.{YieldsList-so_far, YieldsList-end, YieldsList-at}
use Rattle.std.proofs.lemmas.List.{map-id, take-append-drop}
use Rattle.std.proofs.lemmas.Option.{IfSome_then}
use Rattle.order.specs.Searches.{or_else}

-- the first answer of h along a list
abbrev pub first_some : {A C : Type 0} → (A → Option C) → List A → Option C
first_some h [] = None
first_some h (x ∷ xs) = or_else (h x) (first_some h xs)

module _ {A C : Type 0} (h : A → Option C) where
  none_in : (xs : List A) → ((k : ℕ) → IfSome (slice_get xs k) (λ x. h x ≡ None)) → first_some h xs ≡ None
  none_in [] none = refl
  none_in (x ∷ xs) none = ap (λ o. or_else o (first_some h xs)) (none 0) ∙ none_in xs (λ k. none (suc k))

  -- there is an answer at i, and none before
  some_at : (xs ys : List A) (i : ℕ) (c : C) → ((k : ℕ) → k < i → IsSomeAnd (slice_get xs k) (λ x. h x ≡ None)) → IsSomeAnd (slice_get xs i) (λ x. h x ≡ Some c) → first_some h (xs ++ ys) ≡ Some c
  some_at [] ys i c none here = absurd here
  some_at (x ∷ xs) ys zero c none here = ap (λ o. or_else o (first_some h (xs ++ ys))) here
  some_at (x ∷ xs) ys (suc i) c none here = ap (λ o. or_else o (first_some h (xs ++ ys))) (none 0 (omega arith)) ∙ some_at xs ys i c (λ k l. none (suc k) (omega arith)) here

and_then : {A : Type 0} {P Q : A → Type 0} (o : Option A) → IsSomeAnd o P → ((x : A) → P x → Q x) → IsSomeAnd o Q
and_then None p q = absurd p
and_then (Some x) p q = q x p

-- what the clause `runs` of `find_map` says of its answer r
abbrev pub FoundBy : {S A B F : Type 0} → (S → Option A → S → Type 0) → Mut F (A × Unit {0}) (Option B) → F → S → Option B → Type 0
FoundBy steps g f s r = SomeRun steps s (λ p. MatchOption r (IsTrue p.whole × AllItemsGive p g f None) (λ y. (i : ℕ) × (i < p.len) × (p.len ≡ i + 1) × IsFirstToGive p g f (Some y) None i))

-- r is the first answer along the items, where each call answers as h does, seen through w
pub found_first : {S A B C F : Type 0} {steps : S → Option A → S → Type 0} {s : S} {all : List A} (g : Mut F (A × Unit {0}) (Option B)) (f : F) (w : Option B → Option C) (h : A → Option C) → w None ≡ None → ((y : B) → (c : C) × (w (Some y) ≡ Some c)) → (r : Option B) → FoundBy steps g f s r → YieldsList steps (λ x. x) s all → CallKeepsClosure g f → ((x : A) (o : Option B) → Called g f (x, tt) o f → w o ≡ h x) → w r ≡ first_some h all
unfolding YieldsRun
found_first {steps} {all} g f w h nothing some None found yields keeps is =
    let p = found.0 in
    let answers = found.2.1 keeps in
    let gave : DrainsIf steps (p.whole ≡ true) p.from p.items × ((k : ℕ) → p.at k ≡ slice_get p.items k) = p.gave in
    let end = gave.0.2 found.2.0 in
    let same = (YieldsList-end (YieldsList-at found.1 yields) p.items gave.0.0 gave.0.1 None end.0 refl end.1).0 in
    let none : (k : ℕ) → IfSome (slice_get p.items k) (λ x. h x ≡ None) = λ k. IfSome_then (slice_get p.items k) (subst (λ o. IfSome o (λ x. Called g f (x, tt) None f)) (gave.1 k) (answers k)) (λ x call. sym (is x None call) ∙ nothing) in
    nothing ∙ sym (ap (first_some h) (sym same ∙ map-id p.items) ∙ none_in h p.items none)
found_first {steps} {all} g f w h nothing some (Some y) found yields keeps is =
    let p = found.0 in
    let i = found.2.0 in
    let answers = found.2.3 keeps in
    let gave : DrainsIf steps (p.whole ≡ true) p.from p.items × ((k : ℕ) → p.at k ≡ slice_get p.items k) = p.gave in
    let same = YieldsList-so_far (YieldsList-at found.1 yields) p.items gave.0.0 gave.0.1 in
    let whole : all ≡ p.items ++ drop (length p.items) all = sym (take-append-drop (length p.items) all) ∙ ap (λ xs. xs ++ drop (length p.items) all) (sym same ∙ map-id p.items) in
    let none : (k : ℕ) → k < i → IsSomeAnd (slice_get p.items k) (λ x. h x ≡ None) = λ k l. and_then (slice_get p.items k) (subst (λ o. IsSomeAnd o (λ x. Called g f (x, tt) None f)) (gave.1 k) (answers.1 k l)) (λ x call. sym (is x None call) ∙ nothing) in
    let here = and_then (slice_get p.items i) (subst (λ o. IsSomeAnd o (λ x. Called g f (x, tt) (Some y) f)) (gave.1 i) answers.0) (λ x call. sym (is x (Some y) call) ∙ (some y).1) in
    (some y).1 ∙ sym (ap (first_some h) whole ∙ some_at h p.items (drop (length p.items) all) i (some y).0 none here)
