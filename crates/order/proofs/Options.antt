-- What an Option is, and what the definitions over Options tell. Assumes nothing.
use Rattle.std.proofs.Common.{◌≡◌, ℕ, Bool, true, false, cond, ◌⊎◌, Some, None, Option, sym, refl, inl, inr, arith}
use Rattle.order.specs.Searches.{or_else}

module _ {A : Type 0} where
  pub option_cases : (o : Option A) → (o ≡ None) ⊎ ((a : A) × (o ≡ Some a))
  option_cases None = inl refl
  option_cases (Some a) = inr (a, refl)

  pub some_not_none : (o : Option A) (a : A) → o ≡ Some a → o ≡ None → ⊥
  some_not_none o a p q = let z : ◌≡◌ {A = ℕ} 0 1 = cc in omega arith

  pub same_some : (o : Option A) (a b : A) → o ≡ Some a → o ≡ Some b → a ≡ b
  same_some o a b p q = cc

  pub or_else_some : (o r : Option A) (a : A) → or_else o r ≡ Some a → (o ≡ Some a) ⊎ ((o ≡ None) × (r ≡ Some a))
  or_else_some (Some x) r a h = inl h
  or_else_some None r a h = inr (refl, h)

  pub or_else_none : (o r : Option A) → or_else o r ≡ None → (o ≡ None) × (r ≡ None)
  or_else_none (Some x) r h = absurd (some_not_none (Some x) x refl h)
  or_else_none None r h = (refl, h)

  pub cond_some : (b : Bool) (o : Option A) (a : A) → cond b o None ≡ Some a → (b ≡ true) × (o ≡ Some a)
  cond_some true o a h = (refl, h)
  cond_some false o a h = absurd (some_not_none (Some a) a refl (sym h))

  pub or_else_same : (o r r' : Option A) → (o ≡ None → r ≡ r') → or_else o r ≡ or_else o r'
  or_else_same (Some x) r r' h = refl
  or_else_same None r r' h = h refl

-- the value of an Option, changed
abbrev pub mapped : {A B : Type 0} → (A → B) → Option A → Option B
mapped g None = None
mapped g (Some a) = Some (g a)

module _ {A B : Type 0} (g : A → B) where
  pub mapped_or_else : (o r : Option A) → mapped g (or_else o r) ≡ or_else (mapped g o) (mapped g r)
  mapped_or_else (Some a) r = refl
  mapped_or_else None r = refl

  pub mapped_cond : (b : Bool) (o : Option A) → mapped g (cond b o None) ≡ cond b (mapped g o) None
  mapped_cond true o = refl
  mapped_cond false o = refl
