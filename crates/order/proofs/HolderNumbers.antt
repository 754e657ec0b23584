-- The numbers of holders, and the lists of those that an event takes from and gives to. Assumes nothing.
use Rattle.std.proofs.Common.{◌≡◌, ℕ, ◌+◌, ◌<◌, Bool, true, false, cond, ◌||◌, eqb, ◌⊎◌, List, [], ◌∷◌, ◌++◌, sym, refl, ap, ◌∙◌, subst, inl, inr, arith}
use Rattle.std.proofs.lemmas.Bool.{or_cases, or_left, or_right, and_parts, and_from, eq-eqb, eqb-true, false≢true}
use Rattle.events.specs.declared.Event.{Event}
use Rattle.events.specs.declared.Action.{Action}
use Rattle.events.specs.declared.Action.TheVariants.{Read, Write, Acquire, Release, ReadFlag, WriteFlag, Fork, Join, Allocate, Commit}
use Rattle.events.specs.Places.{member, those_below}
use Rattle.events.specs.Kinds.{kind}
use Rattle.order.specs.Acts.{operand, read_set, write_set, is, does, commits}
use Rattle.order.specs.Holders.{Holder, of_thread, of_lock, of_flag, of_place, gives, takes, holder_number, InRange}
use Rattle.order.specs.Slots.{place_holders, taken, given}
use Rattle.order.specs.Verdicts.{NoFault}
use Rattle.order.proofs.Acts.{does_parts, does_from, member_place, commits_place}
use Rattle.order.proofs.Faults.{thread_range, forked_range, joined_range, lock_flag_range, acquired_range}
use Rattle.order.proofs.Passes.{has, has_cases, has_left, has_right, has_shifted, has_unshifted, those_below_has, has_those_below}

-- in range, a number is one holder's
pub one_holder : (g h : Holder) → InRange g → InRange h → holder_number g ≡ holder_number h → g ≡ h
one_holder (of_thread t) (of_thread u) l m q = ap of_thread q
one_holder (of_thread t) (of_lock u) l m q = absurd (omega arith)
one_holder (of_thread t) (of_flag u) l m q = absurd (omega arith)
one_holder (of_thread t) (of_place u) l m q = absurd (omega arith)
one_holder (of_lock t) (of_thread u) l m q = absurd (omega arith)
one_holder (of_lock t) (of_lock u) l m q = ap of_lock (omega arith)
one_holder (of_lock t) (of_flag u) l m q = absurd (omega arith)
one_holder (of_lock t) (of_place u) l m q = absurd (omega arith)
one_holder (of_flag t) (of_thread u) l m q = absurd (omega arith)
one_holder (of_flag t) (of_lock u) l m q = absurd (omega arith)
one_holder (of_flag t) (of_flag u) l m q = ap of_flag (omega arith)
one_holder (of_flag t) (of_place u) l m q = absurd (omega arith)
one_holder (of_place t) (of_thread u) l m q = absurd (omega arith)
one_holder (of_place t) (of_lock u) l m q = absurd (omega arith)
one_holder (of_place t) (of_flag u) l m q = absurd (omega arith)
one_holder (of_place t) (of_place u) l m q = ap of_place (omega arith)

-- what an event that no number refuses takes from and gives to is in range
module _ (rec : List Event) (e : Event) (none : NoFault rec e) where
  pub takes_range : (h : Holder) → takes rec e h ≡ true → InRange h
  unfolding takes
  takes_range (of_thread t) q =
      elim (or_cases (eqb e.thread t) (does 7 e t) q) [
        | inl r ↦ subst (λ x. x < 8) (eqb-true e.thread t r) (thread_range rec e none)
        | inr r ↦ joined_range rec e none t r
      ]
  takes_range (of_lock l) q = acquired_range rec e none l q
  takes_range (of_flag f) q = lock_flag_range rec e none 4 f q (or_left (is 2 e || is 3 e || is 4 e) _ (or_right (is 2 e || is 3 e) _ (does_parts 4 e f q).0))
  takes_range (of_place p) q = commits_place e p q

  pub gives_range : (h : Holder) → gives rec e h ≡ true → InRange h
  unfolding gives
  gives_range (of_thread t) q =
      elim (or_cases (eqb e.thread t) (does 6 e t) q) [
        | inl r ↦ subst (λ x. x < 8) (eqb-true e.thread t r) (thread_range rec e none)
        | inr r ↦ forked_range rec e none t r
      ]
  gives_range (of_lock l) q = lock_flag_range rec e none 3 l q (or_left (is 2 e || is 3 e || is 4 e) _ (or_left (is 2 e || is 3 e) _ (or_right (is 2 e) _ (does_parts 3 e l q).0)))
  gives_range (of_flag f) q = lock_flag_range rec e none 5 f q (or_right (is 2 e || is 3 e || is 4 e) _ (does_parts 5 e f q).0)
  gives_range (of_place p) q = commits_place e p q

-- the list of one number
single : (x y : ℕ) → has (x ∷ []) y ≡ true → x ≡ y
single x y h = elim (or_cases (eqb x y) false h) [ inl q ↦ eqb-true x y q | inr q ↦ absurd (false≢true q) ]

has_single : (x y : ℕ) → x ≡ y → has (x ∷ []) y ≡ true
has_single x y q = or_left (eqb x y) false (eq-eqb x y q)

place_of : (r w x : ℕ) → has (place_holders r w) x ≡ true → (p : ℕ) × (x ≡ 72 + p) × ((member r p || member w p) ≡ true)
unfolding place_holders
place_of r w x h =
    let q = has_unshifted 72 (those_below 64 (λ p. member r p || member w p)) x h in
    (q.0, q.1, (those_below_has 64 (λ p. member r p || member w p) q.0 q.2).1)

has_place : (r w p : ℕ) → (member r p || member w p) ≡ true → has (place_holders r w) (72 + p) ≡ true
unfolding place_holders
has_place r w p h = has_shifted 72 _ p (has_those_below 64 (λ q. member r q || member w q) p (elim (or_cases (member r p) (member w p) h) [ inl q ↦ member_place r p q | inr q ↦ member_place w p q ]) h)

-- both lists are made alike: a lock for one kind of event, a flag for another, a thread for a third, and a commit's places
module _ (lock flag thread : ℕ) where
  listed : Action → List ℕ
  listed a =
      cond (eqb (kind a) lock) ((8 + operand a) ∷ []) [] ++ (cond (eqb (kind a) flag) ((40 + operand a) ∷ []) [] ++ (cond (eqb (kind a) thread) (operand a ∷ []) [] ++ cond (eqb (kind a) 9) (place_holders (read_set a) (write_set a)) []))

  beyond : Event → Holder → Bool
  beyond e (of_thread t) = does thread e t
  beyond e (of_lock l) = does lock e l
  beyond e (of_flag f) = does flag e f
  beyond e (of_place p) = commits e p

  -- a part of the list: there for events of one kind
  part_has : (b : Bool) (ks : List ℕ) (x : ℕ) → has (cond b ks []) x ≡ true → (b ≡ true) × (has ks x ≡ true)
  part_has true ks x h = (refl, h)
  part_has false ks x h = absurd (false≢true h)

  has_part : (b : Bool) (ks : List ℕ) (x : ℕ) → b ≡ true → has ks x ≡ true → has (cond b ks []) x ≡ true
  has_part b ks x q h = ap (λ c. has (cond c ks []) x) q ∙ h

  listed_of : (e : Event) (x : ℕ) → has (listed e.action) x ≡ true → (h : Holder) × (holder_number h ≡ x) × (beyond e h ≡ true)
  unfolding listed beyond commits
  listed_of e x h =
      let a = e.action in
      let y = operand a in
      elim (has_cases (cond (is lock e) ((8 + y) ∷ []) []) _ x h) [
        | inl q ↦ (let k = part_has (is lock e) _ x q in (of_lock y, single (8 + y) x k.1, does_from lock e y k.0 refl))
        | inr h₁ ↦ elim (has_cases (cond (is flag e) ((40 + y) ∷ []) []) _ x h₁) [
          | inl q ↦ (let k = part_has (is flag e) _ x q in (of_flag y, single (40 + y) x k.1, does_from flag e y k.0 refl))
          | inr h₂ ↦ elim (has_cases (cond (is thread e) (y ∷ []) []) _ x h₂) [
            | inl q ↦ (let k = part_has (is thread e) _ x q in (of_thread y, single y x k.1, does_from thread e y k.0 refl))
            | inr q ↦
                let k = part_has (is 9 e) (place_holders (read_set a) (write_set a)) x q in
                let p = place_of (read_set a) (write_set a) x k.1 in
                (of_place p.0, sym p.1, and_from (is 9 e) _ k.0 p.2)
          ]
        ]
      ]

  of_listed : (e : Event) (h : Holder) → beyond e h ≡ true → has (listed e.action) (holder_number h) ≡ true
  unfolding listed beyond commits
  of_listed e (of_lock l) q =
      let d = does_parts lock e l q in
      has_left (cond (is lock e) _ []) _ (8 + l) (has_part (is lock e) _ (8 + l) d.0 (has_single (8 + operand e.action) (8 + l) (ap (λ y. 8 + y) d.1)))
  of_listed e (of_flag f) q =
      let d = does_parts flag e f q in
      has_right (cond (is lock e) _ []) _ (40 + f) (has_left (cond (is flag e) _ []) _ (40 + f) (has_part (is flag e) _ (40 + f) d.0 (has_single (40 + operand e.action) (40 + f) (ap (λ y. 40 + y) d.1))))
  of_listed e (of_thread t) q =
      let d = does_parts thread e t q in
      has_right (cond (is lock e) _ []) _ t (has_right (cond (is flag e) _ []) _ t (has_left (cond (is thread e) _ []) _ t (has_part (is thread e) _ t d.0 (has_single (operand e.action) t d.1))))
  of_listed e (of_place p) q =
      let a = e.action in
      let d = and_parts (is 9 e) (member (read_set a) p || member (write_set a) p) q in
      has_right (cond (is lock e) _ []) _ (72 + p) (has_right (cond (is flag e) _ []) _ (72 + p) (has_right (cond (is thread e) _ []) _ (72 + p) (has_part (is 9 e) _ (72 + p) d.0 (has_place (read_set a) (write_set a) p d.1))))

taken_listed : (a : Action) → taken a ≡ listed 2 4 7 a
unfolding listed
taken_listed (Read p) = refl
taken_listed (Write p) = refl
taken_listed (Acquire l) = refl
taken_listed (Release l) = refl
taken_listed (ReadFlag f) = refl
taken_listed (WriteFlag f) = refl
taken_listed (Fork u) = refl
taken_listed (Join u) = refl
taken_listed (Allocate o) = refl
taken_listed (Commit r w) = refl

given_listed : (a : Action) → given a ≡ listed 3 5 6 a
unfolding listed
given_listed (Read p) = refl
given_listed (Write p) = refl
given_listed (Acquire l) = refl
given_listed (Release l) = refl
given_listed (ReadFlag f) = refl
given_listed (WriteFlag f) = refl
given_listed (Fork u) = refl
given_listed (Join u) = refl
given_listed (Allocate o) = refl
given_listed (Commit r w) = refl

-- beside its own thread an event takes from the holders of the one list and gives to those of the other
module _ (rec : List Event) (e : Event) where
  takes_beyond : (h : Holder) → beyond 2 4 7 e h ≡ true → takes rec e h ≡ true
  unfolding beyond takes
  takes_beyond (of_thread t) q = or_right (eqb e.thread t) _ q
  takes_beyond (of_lock l) q = q
  takes_beyond (of_flag f) q = q
  takes_beyond (of_place p) q = q

  takes_cases : (h : Holder) → takes rec e h ≡ true → (e.thread ≡ holder_number h) ⊎ (beyond 2 4 7 e h ≡ true)
  unfolding beyond takes
  takes_cases (of_thread t) q = elim (or_cases (eqb e.thread t) (does 7 e t) q) [ inl r ↦ inl (eqb-true e.thread t r) | inr r ↦ inr r ]
  takes_cases (of_lock l) q = inr q
  takes_cases (of_flag f) q = inr q
  takes_cases (of_place p) q = inr q

  gives_beyond : (h : Holder) → beyond 3 5 6 e h ≡ true → gives rec e h ≡ true
  unfolding beyond gives
  gives_beyond (of_thread t) q = or_right (eqb e.thread t) _ q
  gives_beyond (of_lock l) q = q
  gives_beyond (of_flag f) q = q
  gives_beyond (of_place p) q = q

  gives_cases : (h : Holder) → gives rec e h ≡ true → (e.thread ≡ holder_number h) ⊎ (beyond 3 5 6 e h ≡ true)
  unfolding beyond gives
  gives_cases (of_thread t) q = elim (or_cases (eqb e.thread t) (does 6 e t) q) [ inl r ↦ inl (eqb-true e.thread t r) | inr r ↦ inr r ]
  gives_cases (of_lock l) q = inr q
  gives_cases (of_flag f) q = inr q
  gives_cases (of_place p) q = inr q

  pub taken_of : (x : ℕ) → has (taken e.action) x ≡ true → (h : Holder) × (holder_number h ≡ x) × (takes rec e h ≡ true)
  taken_of x q =
      let r = listed_of 2 4 7 e x (ap (λ ks. has ks x) (sym (taken_listed e.action)) ∙ q) in
      (r.0, r.1, takes_beyond r.0 r.2)

  pub taken_or_own : (h : Holder) → takes rec e h ≡ true → (e.thread ≡ holder_number h) ⊎ (has (taken e.action) (holder_number h) ≡ true)
  taken_or_own h q =
      elim (takes_cases h q) [
        | inl r ↦ inl r
        | inr r ↦ inr (ap (λ ks. has ks (holder_number h)) (taken_listed e.action) ∙ of_listed 2 4 7 e h r)
      ]

  pub given_of : (x : ℕ) → has (given e.action) x ≡ true → (h : Holder) × (holder_number h ≡ x) × (gives rec e h ≡ true)
  given_of x q =
      let r = listed_of 3 5 6 e x (ap (λ ks. has ks x) (sym (given_listed e.action)) ∙ q) in
      (r.0, r.1, gives_beyond r.0 r.2)

  pub given_or_own : (h : Holder) → gives rec e h ≡ true → (e.thread ≡ holder_number h) ⊎ (has (given e.action) (holder_number h) ≡ true)
  given_or_own h q =
      elim (gives_cases h q) [
        | inl r ↦ inl r
        | inr r ↦ inr (ap (λ ks. has ks (holder_number h)) (given_listed e.action) ∙ of_listed 3 5 6 e h r)
      ]

  -- an event takes from its own thread and gives to it
  pub takes_own : takes rec e (of_thread e.thread) ≡ true
  unfolding takes
  takes_own = or_left (eqb e.thread e.thread) _ (eq-eqb e.thread e.thread refl)

  pub gives_own : gives rec e (of_thread e.thread) ≡ true
  unfolding gives
  gives_own = or_left (eqb e.thread e.thread) _ (eq-eqb e.thread e.thread refl)
