-- A table of locks that are all free, and a search for a lock that a thread holds. Assumes nothing.
use Rattle.std.proofs.Common.{◌≡◌, ℕ, ◌<◌, Bool, true, ltb, ◌↔◌, length, slice_index_or, SomeIndex, IsTrue, replicate, None, sym, ap, ◌∙◌, inl, inr, arith}
use Rattle.std.proofs.lemmas.List.{get_or-replicate}
use Rattle.std.proofs.lemmas.Bool.{cases_lt, cond-true, cond-false, lt-ltb, le-ltb}
use Rattle.std.proofs.lemmas.Bool.Decides.{same_from_decides}
use Rattle.order.specs.Faults.{held_by}
use Rattle.order.proofs.Searches.{some_below_found, some_below_from}
use Rattle.roster.specs.declared.locks.Lock.{Lock}
use Rattle.roster.specs.declared.locks.LockTable.{LockTable}
use Rattle.roster.specs.States.{free, holder_of, holds_some}

pub all_free : (x : Lock) → x.holder ≡ None → (l : ℕ) → holder_of (record { locks = replicate 32 x }) l ≡ None
all_free x h l =
    elim (cases_lt l 32) [
      | inl m ↦ ap (λ (y : Lock). y.holder) (cond-true (ltb l 32) _ _ (lt-ltb l 32 m) ∙ get_or-replicate 32 l x free m) ∙ h
      | inr m ↦ ap (λ (y : Lock). y.holder) (cond-false (ltb l 32) _ free (le-ltb l 32 m))
    ]

-- a search of the table finds what a search of the holders does
pub holds_searched : (table : LockTable) (t : ℕ) (found : Bool) → length table.locks ≡ 32 → (IsTrue found ↔ SomeIndex table.locks (λ k. held_by (slice_index_or table.locks k free).holder t ≡ true)) → found ≡ holds_some 32 (holder_of table) t
unfolding holds_some
holds_searched table t found count searched =
    let at : (l : ℕ) → l < 32 → holder_of table l ≡ (slice_index_or table.locks l free).holder = λ l m. ap (λ (y : Lock). y.holder) (cond-true (ltb l 32) _ free (lt-ltb l 32 m)) in
    same_from_decides found _ (
      λ h. let (l, m, held) = searched.0 h in let n : l < 32 = omega arith in some_below_from 32 (λ k. held_by (holder_of table k) t) l n (ap (λ o. held_by o t) (at l n) ∙ held),
      λ h. let (l, m, held) = some_below_found 32 (λ k. held_by (holder_of table k) t) h in searched.1 (l, omega arith, ap (λ o. held_by o t) (sym (at l m)) ∙ held),
    ) (λ h. h, λ h. h)
