-- What the tests of an event tell. Assumes nothing.
use Rattle.std.proofs.Common.{◌≡◌, ℕ, ◌/◌, ◌<◌, true, false, not, ◌&&◌, ◌||◌, ltb, ◌⊎◌, sym, ◌∙◌, inl, inr, arith}
use Rattle.std.proofs.lemmas.Bool.{eq-eqb, eqb-true, ltb-true, and_parts, and_from, or_cases, not-true, both_ways}
use Rattle.events.specs.declared.Event.{Event}
use Rattle.events.specs.Places.{member}
use Rattle.events.specs.Kinds.{kind}
use Rattle.order.specs.Acts.{is, operand, read_set, write_set, does, allocates, writes_place, reads_place, commits}

pub does_parts : (n : ℕ) (e : Event) (x : ℕ) → does n e x ≡ true → (is n e ≡ true) × (operand e.action ≡ x)
unfolding does
does_parts n e x h = let parts = and_parts _ _ h in (parts.0, eqb-true (operand e.action) x parts.1)

pub does_from : (n : ℕ) (e : Event) (x : ℕ) → is n e ≡ true → operand e.action ≡ x → does n e x ≡ true
unfolding does
does_from n e x h q = and_from _ _ h (eq-eqb (operand e.action) x q)

pub member_place : (w p : ℕ) → member w p ≡ true → p < 64
member_place w p h = ltb-true p 64 (and_parts (ltb p 64) _ h).0

pub commits_place : (e : Event) (p : ℕ) → commits e p ≡ true → p < 64
unfolding commits
commits_place e p h =
    let r = read_set e.action in
    let w = write_set e.action in
    elim (or_cases (member r p) (member w p) (and_parts (is 9 e) (member r p || member w p) h).1) [
      | inl q ↦ member_place r p q
      | inr q ↦ member_place w p q
    ]

kind_is : (n : ℕ) (e : Event) → is n e ≡ true → kind e.action ≡ n
kind_is n e h = eqb-true (kind e.action) n h

-- an event is of one kind
pub one_kind : (m n : ℕ) (e : Event) → is m e ≡ true → is n e ≡ true → m ≡ n
one_kind m n e h k = sym (kind_is m e h) ∙ kind_is n e k

pub write_kind : (e : Event) (p : ℕ) → writes_place e p ≡ true → (is 1 e ≡ true) ⊎ ((is 9 e ≡ true) × (member (write_set e.action) p ≡ true))
unfolding writes_place
write_kind e p h =
    elim (or_cases (does 1 e p) (is 9 e && member (write_set e.action) p) h) [
      | inl d ↦ inl (does_parts 1 e p d).0
      | inr c ↦ inr (and_parts (is 9 e) (member (write_set e.action) p) c)
    ]

pub read_kind : (e : Event) (p : ℕ) → reads_place e p ≡ true → (is 0 e ≡ true) ⊎ ((is 9 e ≡ true) × (member (write_set e.action) p ≡ false))
unfolding reads_place
read_kind e p h =
    let r = member (read_set e.action) p in
    let w = member (write_set e.action) p in
    elim (or_cases (does 0 e p) (is 9 e && (r && not w)) h) [
      | inl d ↦ inl (does_parts 0 e p d).0
      | inr c ↦ (let k = and_parts (is 9 e) (r && not w) c in inr (k.0, not-true w (and_parts r (not w) k.1).1))
    ]

-- no event both writes and reads a place, and none that accesses a place allocates it
pub write_not_read : (e : Event) (p : ℕ) → writes_place e p ≡ true → reads_place e p ≡ true → ⊥
write_not_read e p w r =
    elim (write_kind e p w) [
      | inl a ↦ elim (read_kind e p r) [
        | inl b ↦ (let q = one_kind 1 0 e a b in omega arith)
        | inr b ↦ (let q = one_kind 1 9 e a b.0 in omega arith)
      ]
      | inr a ↦ elim (read_kind e p r) [
        | inl b ↦ (let q = one_kind 9 0 e a.0 b in omega arith)
        | inr b ↦ both_ways _ b.1 a.1
      ]
    ]

pub write_not_allocates : (e : Event) (p : ℕ) → writes_place e p ≡ true → allocates e p ≡ true → ⊥
unfolding allocates
write_not_allocates e p w a =
    let b = (does_parts 8 e (p / 4) a).0 in
    elim (write_kind e p w) [
      | inl c ↦ (let q = one_kind 1 8 e c b in omega arith)
      | inr c ↦ (let q = one_kind 9 8 e c.0 b in omega arith)
    ]

pub read_not_allocates : (e : Event) (p : ℕ) → reads_place e p ≡ true → allocates e p ≡ true → ⊥
unfolding allocates
read_not_allocates e p r a =
    let b = (does_parts 8 e (p / 4) a).0 in
    elim (read_kind e p r) [
      | inl c ↦ (let q = one_kind 0 8 e c b in omega arith)
      | inr c ↦ (let q = one_kind 9 8 e c.0 b in omega arith)
    ]
