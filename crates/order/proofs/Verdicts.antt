-- Only one answer to an offered event is right. Assumes nothing.
use Rattle.std.proofs.Common.{◌≡◌, ℕ, List, ap, subst, ap₂, inl, inr, arith}
use Rattle.std.proofs.lemmas.Bool.{both_ways, cases_order}
use Rattle.events.specs.declared.Event.{Event}
use Rattle.order.specs.Records.{Test}
use Rattle.order.specs.Judgement.{Answer, accepted, refused, declined}
use Rattle.order.specs.Verdicts.{Latest, LatestRead, FirstFault, Witnessed, by_write, by_read, Declined, Right}

latest_unique : (f : Test) (rec : List Event) (i j : ℕ) → Latest f rec i → Latest f rec j → i ≡ j
latest_unique f rec i j a b = let l = a.last j b.holds in let m = b.last i a.holds in omega arith

module _ (rec : List Event) (e : Event) where
  witness_unique : (p i j : ℕ) → Witnessed rec e p i → Witnessed rec e p j → i ≡ j
  witness_unique p i j (by_write t a u) (by_write t' b u') = latest_unique _ rec i j a b
  witness_unique p i j (by_write t a u) (by_read t' w writes b u' first) = absurd (u (writes i a))
  witness_unique p i j (by_read t w writes a u first) (by_write t' b u') = absurd (u' (writes j b))
  witness_unique p i j (by_read t w writes a u first) (by_read t' w' writes' b u' first') =
      elim (cases_order t t') [
        | inl q ↦ latest_unique _ rec i j (subst (λ x. LatestRead rec p x i) q a) b
        | inr (inl l) ↦ absurd (u (first' t i l a))
        | inr (inr l) ↦ absurd (u' (first t' j l b))
      ]

  first_unique : (m n : ℕ) → FirstFault rec e m → FirstFault rec e n → m ≡ n
  first_unique m n a b =
      elim (cases_order m n) [
        | inl q ↦ q
        | inr (inl l) ↦ absurd (both_ways _ (b.first m l) a.holds)
        | inr (inr l) ↦ absurd (both_ways _ (a.first n l) b.holds)
      ]

  same_place : (p s q u : ℕ) → Declined rec e p s → Declined rec e q u → p ≡ q
  same_place p s q u a b =
      elim (cases_order p q) [
        | inl r ↦ r
        | inr (inl l) ↦ absurd (b.lowest p a.position l a.race)
        | inr (inr l) ↦ absurd (a.lowest q b.position l b.race)
      ]

  same_serial : (p s q u : ℕ) → p ≡ q → Declined rec e p s → Declined rec e q u → s ≡ u
  same_serial p s q u r a b =
      let same = witness_unique q a.position b.position (subst (λ x. Witnessed rec e x a.position) r a.witness) b.witness in
      let x = a.serial in
      let y = b.serial in
      omega arith

  pub right_unique : (a b : Answer) → Right rec e a → Right rec e b → a ≡ b
  right_unique (accepted s) (accepted u) a b = ap accepted (let x = a.serial in let y = b.serial in omega arith)
  right_unique (accepted s) (refused n) a b = absurd (both_ways _ (a.lawful n) b.holds)
  right_unique (accepted s) (declined q u) a b = absurd (a.free q b.position b.race)
  right_unique (refused n) (accepted u) a b = absurd (both_ways _ (b.lawful n) a.holds)
  right_unique (refused m) (refused n) a b = ap refused (first_unique m n a b)
  right_unique (refused n) (declined q u) a b = absurd (both_ways _ (b.lawful n) a.holds)
  right_unique (declined p s) (accepted u) a b = absurd (b.free p a.position a.race)
  right_unique (declined p s) (refused n) a b = absurd (both_ways _ (a.lawful n) b.holds)
  right_unique (declined p s) (declined q u) a b =
      let r = same_place p s q u a b in
      ap₂ declined r (same_serial p s q u r a b)
