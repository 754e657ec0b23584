-- In every rearrangement of a race-free record each read sees the write that it sees in the record. Assumes nothing.
use Rattle.std.proofs.Common.{◌≡◌, ℕ, ◌<◌, ◌≤◌, Bool, true, not, ◌&&◌, ltb, ◌⊎◌, List, length, Some, None, Option, sym, ap, ◌∙◌, inl, inr, arith}
use Rattle.std.proofs.lemmas.Bool.{cases_Bool, cases_order, cond-true, lt-ltb, or_cases, or_left, or_right, and_parts, and_from, not_from_false}
use Rattle.std.proofs.lemmas.Bool.Decides.{nat_tests}
use Rattle.events.specs.declared.Event.{Event}
use Rattle.events.specs.Places.{member}
use Rattle.order.specs.Acts.{is, does, read_set, write_set, touches, writes_place, reads_place, sees}
use Rattle.order.specs.Records.{before}
use Rattle.order.specs.Order.{Ordered, one, more}
use Rattle.order.specs.Conflicts.{lives, life, writes_in, touches_in, RaceFree}
use Rattle.order.specs.Rearrangements.{times, when, past, Rearrangement, seen, sees_at, positions, SameReads}
use Rattle.order.proofs.Records.{holds_at_within, at_position}
use Rattle.order.proofs.Accesses.{in_life_from, writes_conflict, write_conflicts, write_in_touches, write_touches, read_touches}
use Rattle.order.proofs.Moments.{newest_cases, past_earlier, earlier_past, times_positions, when_positions}

-- the record is a rearrangement of itself
pub own_order : (rec : List Event) → Rearrangement (positions (length rec)) rec
own_order rec = record {
  once = times_positions (length rec);
  keeps = λ i j s.
      let l = s.earlier in
      let m = s.within in
      rw (when_positions (length rec) i (omega arith), when_positions (length rec) j m) l;
}

sees_touches : (e : Event) (p : ℕ) → sees e p ≡ true → touches e p ≡ true
unfolding sees writes_place reads_place
sees_touches e p h =
    let r = member (read_set e.action) p in
    let w = member (write_set e.action) p in
    elim (or_cases (does 0 e p) (is 9 e && r) h) [
      | inl d ↦ read_touches e p (or_left (does 0 e p) _ d)
      | inr c ↦
          let both = and_parts (is 9 e) r c in
          elim (cases_Bool w) [
            | inl q ↦ write_touches e p (or_right (does 1 e p) _ (and_from (is 9 e) w both.0 q))
            | inr q ↦ read_touches e p (or_right (does 0 e p) _ (and_from (is 9 e) (r && not w) both.0 (and_from r (not w) both.1 (not_from_false w q))))
          ]
    ]

sees_in : (rec : List Event) (p j : ℕ) → sees_at rec p j ≡ true → touches_in rec p (life rec p j) j ≡ true
unfolding sees_at life
sees_in rec p j h =
    let here = at_position rec j (holds_at_within rec j _ h) in
    here.2 _ ∙ in_life_from touches p (lives (before rec j) p) here.0 here.1 (sees_touches here.1 p (sym (here.2 _) ∙ h)) (ap (λ past. lives past p) (sym here.3))

module _ (rec : List Event) (free : RaceFree rec) (p j : ℕ) (reads : sees_at rec p j ≡ true) where
  abbrev writes : ℕ → Bool
  writes k = writes_in rec p (life rec p j) k

  -- the last write before j in the record, which no other order changes
  abbrev Last : ℕ → Type 0
  Last w = (writes w ≡ true) × (w < j) × ((k : ℕ) → k < j → writes k ≡ true → k ≤ w)

  module _ (order : List ℕ) (r : Rearrangement order rec) where
    ordered_when : {i k : ℕ} → Ordered rec i k → when order i < when order k
    ordered_when (one {i = i} {j = k} s) = r.keeps i k s
    ordered_when (more {j = m} {k = k} c s) = let l = ordered_when c in let l' = r.keeps m k s in omega arith

    there : (k : ℕ) → k < length rec → 0 < times order k
    there k l = let q = r.once k ∙ cond-true (ltb k (length rec)) 1 0 (lt-ltb k (length rec) l) in omega arith

    single : (k : ℕ) → times order k ≤ 1
    single k = rw (r.once k) (grind (arith, nat_tests))

    -- a write comes before j in the one order just if it does in the other
    sooner : (k : ℕ) → writes k ≡ true → k < j → when order k < when order j
    sooner k w l = ordered_when (free p (life rec p j) k j l (writes_conflict rec p (life rec p j) k j w (sees_in rec p j reads)))

    not_later : (k : ℕ) → writes k ≡ true → when order k < when order j → k < j
    not_later k w l =
        elim (cases_order k j) [
          | inl q ↦ (let z = ap (when order) q in absurd (omega arith))
          | inr (inl m) ↦ m
          | inr (inr m) ↦
              let back = ordered_when (free p (life rec p j) j k m (write_conflicts rec p (life rec p j) k j (sees_in rec p j reads) w)) in
              absurd (omega arith)
        ]

    upto : (k w : ℕ) → writes k ≡ true → writes w ≡ true → when order k ≤ when order w → k ≤ w
    upto k w wk ww l =
        elim (cases_order k w) [
          | inl q ↦ omega arith
          | inr (inl m) ↦ omega arith
          | inr (inr m) ↦
              let back = ordered_when (free p (life rec p j) w k m (writes_conflict rec p (life rec p j) w k ww (write_in_touches rec p (life rec p j) k wk))) in
              absurd (omega arith)
        ]

    pub seen_cases : ((w : ℕ) × (seen order rec p j ≡ Some w) × Last w) ⊎ ((seen order rec p j ≡ None) × ((k : ℕ) → k < j → writes k ≡ true → ⊥))
    unfolding seen
    seen_cases =
        let jl = holds_at_within rec j _ (sees_in rec p j reads) in
        let jt = there j jl in
        let in-past : (k : ℕ) → k < j → writes k ≡ true → 0 < times (past order j) k = λ k l w. earlier_past order j k jt (there k (omega arith)) (sooner k w l) in
        elim (newest_cases writes (past order j)) [
          | inl n ↦
              let w = n.0 in
              let m = n.1 in
              let e = past_earlier order j w single jt m.there in
              inl (
                w,
                m.is,
                (
                  m.holds,
                  not_later w m.holds e.sooner,
                  λ k l wk.
                      let ek = past_earlier order j k single jt (in-past k l wk) in
                      let le = m.last k wk (in-past k l wk) in
                      let q = e.same in
                      let qk = ek.same in
                      upto k w wk m.holds (omega arith),
                ),
              )
          | inr n ↦ inr (n.0, λ k l w. n.1 k w (in-past k l w))
        ]

pub same_reads : (rec : List Event) → RaceFree rec → SameReads rec
same_reads rec free order r p j reads =
    elim (seen_cases rec free p j reads order r) [
      | inl a ↦ elim (seen_cases rec free p j reads (positions (length rec)) (own_order rec)) [
        | inl b ↦
            let l = a.2.2 b.0 b.2.1 b.2.0 in
            let m = b.2.2 a.0 a.2.1 a.2.0 in
            a.1 ∙ ap {B = Option ℕ} Some (omega arith) ∙ sym b.1
        | inr b ↦ absurd (b.1 a.0 a.2.1 a.2.0)
      ]
      | inr a ↦ elim (seen_cases rec free p j reads (positions (length rec)) (own_order rec)) [
        | inl b ↦ absurd (a.1 b.0 b.2.1 b.2.0)
        | inr b ↦ a.0 ∙ sym b.0
      ]
    ]
