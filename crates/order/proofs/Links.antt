-- Two events are linked just if the first gives to a holder from which the second takes. Assumes nothing.
use Rattle.std.proofs.Common.{◌≡◌, ℕ, ◌<◌, Bool, true, false, ◌&&◌, ◌||◌, eqb, ◌⊎◌, ◌↔◌, List, length, sym, refl, ◌∙◌, inl, inr}
use Rattle.std.proofs.lemmas.Bool.{eq-eqb, eqb-true, and_parts, and_from, or_cases, or_left, or_right}
use Rattle.events.specs.declared.Event.{Event}
use Rattle.order.specs.Acts.{is, operand, does, commits}
use Rattle.order.specs.Order.{by_lock, by_flag, by_fork, by_join, by_fork_join, by_commits, pair, linked}
use Rattle.order.specs.Holders.{Holder, of_thread, of_lock, of_flag, of_place, gives, takes, gives_at}
use Rattle.order.specs.Records.{holds_at}
use Rattle.order.proofs.Searches.{some_below_found, some_below_from}
use Rattle.order.proofs.Acts.{does_parts, does_from, commits_place}
use Rattle.order.proofs.Records.{at_position}
use Rattle.order.proofs.Chains.{link, linked_is}

abbrev pub takes_at : List Event → ℕ → Holder → Bool
takes_at rec i h = holds_at rec i (λ past e. takes past e h)

-- one of six tests passes
abbrev OneOf : Bool → Bool → Bool → Bool → Bool → Bool → Type 0
OneOf u v w x y z = (u ≡ true) ⊎ ((v ≡ true) ⊎ ((w ≡ true) ⊎ ((x ≡ true) ⊎ ((y ≡ true) ⊎ (z ≡ true)))))

one_of : (u v w x y z : Bool) → (u || v || w || x || y || z) ≡ true → OneOf u v w x y z
one_of true v w x y z h = inl refl
one_of false true w x y z h = inr (inl refl)
one_of false false true x y z h = inr (inr (inl refl))
one_of false false false true y z h = inr (inr (inr (inl refl)))
one_of false false false false true z h = inr (inr (inr (inr (inl refl))))
one_of false false false false false z h = inr (inr (inr (inr (inr h))))

from_one_of : (u v w x y z : Bool) → OneOf u v w x y z → (u || v || w || x || y || z) ≡ true
from_one_of true v w x y z s = refl
from_one_of false true w x y z s = refl
from_one_of false false true x y z s = refl
from_one_of false false false true y z s = refl
from_one_of false false false false true z s = refl
from_one_of false false false false false true s = refl
from_one_of false false false false false false s =
    elim s [
      | inl p ↦ p
      | inr (inl p) ↦ p
      | inr (inr (inl p)) ↦ p
      | inr (inr (inr (inl p))) ↦ p
      | inr (inr (inr (inr (inl p)))) ↦ p
      | inr (inr (inr (inr (inr p)))) ↦ p
    ]

-- two kinds and one operand
kinds : (m n : ℕ) (a b : Event) (x y : ℕ) → (is m a && is n b && eqb x y) ≡ true → (is m a ≡ true) × (is n b ≡ true) × (x ≡ y)
kinds m n a b x y h =
    let two = and_parts (is m a && is n b) (eqb x y) h in
    let one = and_parts (is m a) (is n b) two.0 in
    (one.0, one.1, eqb-true x y two.1)

module _ (past : List Event) (a : Event) (past' : List Event) (b : Event) where
  -- a holder through which a hands over to b
  abbrev pub Through : Type 0
  Through = (h : Holder) × (gives past a h ≡ true) × (takes past' b h ≡ true)

  lock_through : by_lock a b ≡ true → Through
  unfolding by_lock gives takes
  lock_through h =
      let k = kinds 3 2 a b (operand a.action) (operand b.action) h in
      (of_lock (operand b.action), does_from 3 a _ k.0 k.2, does_from 2 b _ k.1 refl)

  flag_through : by_flag a b ≡ true → Through
  unfolding by_flag gives takes
  flag_through h =
      let k = kinds 5 4 a b (operand a.action) (operand b.action) h in
      (of_flag (operand b.action), does_from 5 a _ k.0 k.2, does_from 4 b _ k.1 refl)

  fork_through : by_fork a b ≡ true → Through
  unfolding by_fork gives takes
  fork_through h =
      let t = b.thread in
      let k = and_parts (is 6 a) (eqb (operand a.action) t) h in (
        of_thread t,
        or_right (eqb a.thread t) (does 6 a t) (does_from 6 a t k.0 (eqb-true (operand a.action) t k.1)),
        or_left (eqb b.thread t) (does 7 b t) (eq-eqb t t refl),
      )

  join_through : by_join a b ≡ true → Through
  unfolding by_join gives takes
  join_through h =
      let t = operand b.action in
      let k = and_parts (is 7 b) (eqb a.thread t) h in (
        of_thread t,
        or_left (eqb a.thread t) (does 6 a t) k.1,
        or_right (eqb b.thread t) (does 7 b t) (does_from 7 b t k.0 refl),
      )

  fork_join_through : by_fork_join a b ≡ true → Through
  unfolding by_fork_join gives takes
  fork_join_through h =
      let t = operand b.action in
      let k = kinds 6 7 a b (operand a.action) t h in (
        of_thread t,
        or_right (eqb a.thread t) (does 6 a t) (does_from 6 a t k.0 k.2),
        or_right (eqb b.thread t) (does 7 b t) (does_from 7 b t k.1 refl),
      )

  commits_through : by_commits a b ≡ true → Through
  unfolding by_commits gives takes
  commits_through h =
      let found = some_below_found 64 (λ p. commits a p && commits b p) h in
      let both = and_parts (commits a found.0) (commits b found.0) found.2 in
      (of_place found.0, both.0, both.1)

  pub link_through : link past a past' b ≡ true → Through
  unfolding pair gives takes
  link_through h =
      elim (or_cases (eqb a.thread b.thread) (pair past a past' b) h) [
        | inl q ↦
            let t = b.thread in
            (of_thread t, or_left (eqb a.thread t) (does 6 a t) q, or_left (eqb t t) (does 7 b t) (eq-eqb t t refl))
        | inr q ↦ elim (one_of (by_lock a b) (by_flag a b) (by_fork a b) (by_join a b) (by_fork_join a b) (by_commits a b) q) [
          | inl p ↦ lock_through p
          | inr (inl p) ↦ flag_through p
          | inr (inr (inl p)) ↦ fork_through p
          | inr (inr (inr (inl p))) ↦ join_through p
          | inr (inr (inr (inr (inl p)))) ↦ fork_join_through p
          | inr (inr (inr (inr (inr p)))) ↦ commits_through p
        ]
      ]

  same_operand : (m n t : ℕ) → does m a t ≡ true → does n b t ≡ true → (is m a && is n b && eqb (operand a.action) (operand b.action)) ≡ true
  same_operand m n t g k =
      let da = does_parts m a t g in
      let db = does_parts n b t k in
      and_from (is m a && is n b) _ (and_from (is m a) (is n b) da.0 db.0) (eq-eqb _ _ (da.1 ∙ sym db.1))

  from_pair : OneOf (by_lock a b) (by_flag a b) (by_fork a b) (by_join a b) (by_fork_join a b) (by_commits a b) → link past a past' b ≡ true
  unfolding pair
  from_pair s =
      or_right (eqb a.thread b.thread) _ (from_one_of (by_lock a b) (by_flag a b) (by_fork a b) (by_join a b) (by_fork_join a b) (by_commits a b) s)

  through_thread : (t : ℕ) → (eqb a.thread t || does 6 a t) ≡ true → (eqb b.thread t || does 7 b t) ≡ true → link past a past' b ≡ true
  unfolding by_fork by_join by_fork_join
  through_thread t g k =
      elim (or_cases (eqb a.thread t) (does 6 a t) g) [
        | inl p ↦ elim (or_cases (eqb b.thread t) (does 7 b t) k) [
          | inl q ↦ or_left (eqb a.thread b.thread) (pair past a past' b) (eq-eqb _ _ (eqb-true a.thread t p ∙ sym (eqb-true b.thread t q)))
          | inr q ↦
              let db = does_parts 7 b t q in
              from_pair (inr (inr (inr (inl (and_from (is 7 b) _ db.0 (eq-eqb a.thread (operand b.action) (eqb-true a.thread t p ∙ sym db.1)))))))
        ]
        | inr p ↦ elim (or_cases (eqb b.thread t) (does 7 b t) k) [
          | inl q ↦
              let da = does_parts 6 a t p in
              from_pair (inr (inr (inl (and_from (is 6 a) _ da.0 (eq-eqb (operand a.action) b.thread (da.1 ∙ sym (eqb-true b.thread t q)))))))
          | inr q ↦ from_pair (inr (inr (inr (inr (inl (same_operand 6 7 t p q))))))
        ]
      ]

  pub through_link : (h : Holder) → gives past a h ≡ true → takes past' b h ≡ true → link past a past' b ≡ true
  unfolding by_lock by_flag by_commits gives takes
  through_link (of_thread t) g k = through_thread t g k
  through_link (of_lock l) g k = from_pair (inl (same_operand 3 2 l g k))
  through_link (of_flag f) g k = from_pair (inr (inl (same_operand 5 4 f g k)))
  through_link (of_place p) g k =
      from_pair (inr (inr (inr (inr (inr (some_below_from 64 (λ q. commits a q && commits b q) p (commits_place a p g) (and_from (commits a p) (commits b p) g k)))))))

-- between positions
pub linked_iff : (rec : List Event) (i j : ℕ) → i < length rec → j < length rec → (linked rec i j ≡ true) ↔ ((h : Holder) × (gives_at rec i h ≡ true) × (takes_at rec j h ≡ true))
linked_iff rec i j l m =
    let here = at_position rec i l in
    let there = at_position rec j m in
    let same = linked_is rec i j here.0 there.0 here.1 there.1 here.2 there.2 in (
      λ q.
          let through = link_through here.0 here.1 there.0 there.1 (sym same ∙ q) in
          (through.0, here.2 _ ∙ through.1, there.2 _ ∙ through.2),
      λ q. same ∙ through_link here.0 here.1 there.0 there.1 q.0 (sym (here.2 _) ∙ q.1) (sym (there.2 _) ∙ q.2),
    )
