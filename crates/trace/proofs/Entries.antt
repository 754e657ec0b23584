-- The entries of the contents, one after another. Assumes nothing.
use Rattle.std.proofs.Common.{◌≡◌, ℕ, suc, ◌+◌, ◌-◌, ◌*◌, ◌<◌, ◌≤◌, true, false, cond, ltb, List, length, Some, None, Option, sym, refl, ap, ◌∙◌, add-one, arith}
use Rattle.std.proofs.lemmas.Bool.{cond-false, eq-eqb, le-ltb, not_from_true}
use Rattle.trace.specs.declared.fault.TraceFault.TheVariants.{Contents}
use Rattle.trace.specs.Layout.{count, entry_length, body_end, good_entry, bad_entry, at_start, entries, opening}
use Rattle.trace.specs.Refusals.{Framed}

pub body_end_none : (bytes : List ℕ) → body_end bytes 0 ≡ 4 + 8 * count bytes
unfolding body_end
body_end_none bytes = refl

pub body_end_more : (bytes : List ℕ) (s : ℕ) → body_end bytes (s + 1) ≡ body_end bytes s + entry_length bytes s
unfolding body_end
body_end_more bytes s = ap (body_end bytes) (add-one s)

one_less : (n i : ℕ) → i < n → n - i ≡ suc (n - (i + 1))
one_less n i h = omega arith

bad_entry_step : (bytes : List ℕ) (n i : ℕ) → i < n → bad_entry bytes (n - i) i ≡ cond (good_entry bytes i) (bad_entry bytes (n - (i + 1)) (i + 1)) (Some i)
unfolding bad_entry
bad_entry_step bytes n i h =
    ap (λ k. bad_entry bytes k i) (one_less n i h) ∙ ap (λ j. cond (good_entry bytes i) (bad_entry bytes (n - (i + 1)) j) (Some i)) (sym (add-one i))

pub bad_entry_more : (bytes : List ℕ) (n i : ℕ) → i < n → good_entry bytes i ≡ true → bad_entry bytes (n - i) i ≡ bad_entry bytes (n - (i + 1)) (i + 1)
bad_entry_more bytes n i h g = bad_entry_step bytes n i h ∙ ap (λ b. cond b (bad_entry bytes (n - (i + 1)) (i + 1)) (Some i)) g

pub bad_entry_here : (bytes : List ℕ) (n i : ℕ) → i < n → good_entry bytes i ≡ false → bad_entry bytes (n - i) i ≡ Some i
bad_entry_here bytes n i h g = bad_entry_step bytes n i h ∙ ap (λ b. cond b (bad_entry bytes (n - (i + 1)) (i + 1)) (Some i)) g

pub bad_entry_none : (bytes : List ℕ) (n i : ℕ) → n ≤ i → bad_entry bytes (n - i) i ≡ None
unfolding bad_entry
bad_entry_none bytes n i h = let e : n - i ≡ 0 = omega arith in ap (λ k. bad_entry bytes k i) e

-- where no rule before the entries applies, they decide
pub entries_by : (bytes : List ℕ) → Framed bytes → opening bytes ≡ entries bytes (bad_entry bytes (count bytes) 0)
entries_by bytes framed =
    cond-false _ _ _ (le-ltb _ _ framed.short)
    ∙ cond-false _ _ _ (le-ltb _ _ framed.header)
    ∙ cond-false _ _ _ (not_from_true _ (eq-eqb _ _ framed.edition))
    ∙ cond-false _ _ _ (le-ltb _ _ framed.few)
    ∙ cond-false _ _ _ (le-ltb _ _ framed.contents)

module _ (bytes : List ℕ) (n : ℕ) (header : (n ≡ count bytes) × Framed bytes) (i : ℕ) (sofar : bad_entry bytes (n - i) i ≡ bad_entry bytes n 0) where
  opens_as : (r : Option ℕ) → bad_entry bytes (n - i) i ≡ r → opening bytes ≡ entries bytes r
  opens_as r e = entries_by bytes header.1 ∙ ap (λ m. entries bytes (bad_entry bytes m 0)) (sym header.0) ∙ ap (entries bytes) (sym sofar ∙ e)

  -- entry i is the first that is wrong
  pub opens_at_entry : i < n → good_entry bytes i ≡ false → opening bytes ≡ Some (at_start Contents (4 + 8 * i))
  opens_at_entry h g = opens_as (Some i) (bad_entry_here bytes n i h g)

  -- all entries are right, and the last body ends at `end`
  pub opens_at_end : (end : ℕ) → n ≡ i → end ≡ body_end bytes i → opening bytes ≡ cond (ltb end (length bytes)) (Some (at_start Contents end)) None
  opens_at_end end e b =
      opens_as None (bad_entry_none bytes n i (omega arith)) ∙ ap (λ m. cond (ltb m (length bytes)) (Some (at_start Contents m)) None) (ap (body_end bytes) (sym header.0 ∙ e) ∙ sym b)
