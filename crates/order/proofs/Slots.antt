-- What one more event does to the access that a slot stands for. Assumes nothing.
use Rattle.std.proofs.Common.{◌≡◌, ℕ, zero, suc, ◌<◌, Bool, true, false, cond, ◌||◌, eqb, ltb, List, [], ◌∷◌, length, Some, None, Option, sym, refl, ap, ◌∙◌, inl, inr, arith}
use Rattle.std.proofs.lemmas.Bool.{cases_Bool, cond-true, cond-false, and_left, and_right, and_parts, ne_eqb, lt-ltb, le-ltb}
use Rattle.events.specs.declared.Event.{Event}
use Rattle.order.specs.Acts.{allocates, writes_place, reads_place}
use Rattle.order.specs.Records.{latest}
use Rattle.order.specs.Conflicts.{lives, in_life}
use Rattle.order.specs.Judgement.{reads_by, latest_write, latest_read}
use Rattle.order.specs.Slots.{since, slot_access, begins, forgets, changed}
use Rattle.order.proofs.Options.{cond_some}
use Rattle.order.proofs.Acts.{write_not_read, write_not_allocates, read_not_allocates}
use Rattle.order.proofs.Records.{holds_at_within}
use Rattle.order.proofs.Latest.{latest_some}
use Rattle.order.proofs.Accesses.{in_life_from}

pub lives_allocated : (rec : List Event) (e : Event) (p : ℕ) → allocates e p ≡ true → lives (e ∷ rec) p ≡ suc (lives rec p)
unfolding lives
lives_allocated rec e p h = cond-true _ _ _ h

pub lives_same : (rec : List Event) (e : Event) (p : ℕ) → allocates e p ≡ false → lives (e ∷ rec) p ≡ lives rec p
unfolding lives
lives_same rec e p h = cond-false _ _ _ h

-- no access has been in a life to come
later_life : (f : Event → ℕ → Bool) (p n : ℕ) (rec : List Event) → lives rec p < n → latest (in_life f p n) rec ≡ None
unfolding latest in_life
later_life f p n [] l = refl
later_life f p n (e ∷ rec) l =
    let less : lives rec p < n = elim (cases_Bool (allocates e p)) [ inl h ↦ (let q = lives_allocated rec e p h in omega arith) | inr h ↦ (let q = lives_same rec e p h in omega arith) ] in
    cond-false _ _ _ (and_right (f e p) (eqb (lives rec p) n) (ne_eqb (lives rec p) n (λ q. omega arith))) ∙ later_life f p n rec less

in_life_not : (f : Event → ℕ → Bool) (p n : ℕ) (rec : List Event) (e : Event) → f e p ≡ false → in_life f p n rec e ≡ false
unfolding in_life
in_life_not f p n rec e h = and_left (f e p) (eqb (lives rec p) n) h

-- the latest access of the current life after one more event
module _ (f : Event → ℕ → Bool) (rec : List Event) (e : Event) (p : ℕ) (apart : f e p ≡ true → allocates e p ≡ true → ⊥) where
  latest_step : latest (in_life f p (lives (e ∷ rec) p)) (e ∷ rec) ≡ cond (f e p) (Some (length rec)) (cond (allocates e p) None (latest (in_life f p (lives rec p)) rec))
  unfolding latest
  latest_step =
      elim (cases_Bool (f e p)) [
        | inl h ↦
            let same : lives rec p ≡ lives (e ∷ rec) p = elim (cases_Bool (allocates e p)) [ inl a ↦ absurd (apart h a) | inr a ↦ sym (lives_same rec e p a) ] in
            cond-true _ _ _ (in_life_from f p (lives (e ∷ rec) p) rec e h same) ∙ sym (cond-true _ _ _ h)
        | inr h ↦
            cond-false _ _ _ (in_life_not f p (lives (e ∷ rec) p) rec e h) ∙ elim (cases_Bool (allocates e p)) [
              | inl a ↦ (let q = lives_allocated rec e p a in later_life f p _ rec (omega arith) ∙ sym (cond-true _ _ _ a))
              | inr a ↦ ap (λ n. latest (in_life f p n) rec) (lives_same rec e p a) ∙ sym (cond-false _ _ _ a)
            ] ∙ sym (cond-false _ _ _ h)
      ]

module _ (rec : List Event) (e : Event) (p : ℕ) where
  pub latest_write_step : latest_write (e ∷ rec) p ≡ cond (writes_place e p) (Some (length rec)) (cond (allocates e p) None (latest_write rec p))
  unfolding latest_write
  latest_write_step = latest_step writes_place rec e p (write_not_allocates e p)

  read_by : (t : ℕ) → reads_by t e p ≡ true → reads_place e p ≡ true
  unfolding reads_by
  read_by t h = (and_parts (reads_place e p) (eqb e.thread t) h).0

  pub latest_read_step : (t : ℕ) → latest_read (e ∷ rec) p t ≡ cond (reads_by t e p) (Some (length rec)) (cond (allocates e p) None (latest_read rec p t))
  unfolding latest_read
  latest_read_step t = latest_step (reads_by t) rec e p (λ h. read_not_allocates e p (read_by t h))

pub latest_write_within : (rec : List Event) (p w : ℕ) → latest_write rec p ≡ Some w → w < length rec
unfolding latest_write
latest_write_within rec p w h = holds_at_within rec w _ (latest_some _ rec w h).holds

pub latest_read_within : (rec : List Event) (p t r : ℕ) → latest_read rec p t ≡ Some r → r < length rec
unfolding latest_read
latest_read_within rec p t r h = holds_at_within rec r _ (latest_some _ rec r h).holds

-- the read's slot by cases: the tests are of the new event, n is its position
read_slot : (n : ℕ) (r a w : Bool) (lw lr : Option ℕ) → ((x : ℕ) → lw ≡ Some x → x < n) → ((x : ℕ) → lr ≡ Some x → x < n) → (r ≡ true → w ≡ true → ⊥) → (r ≡ true → a ≡ true → ⊥) → (w ≡ true → a ≡ true → ⊥) → since (cond w (Some n) (cond a None lw)) (cond r (Some n) (cond a None lr)) ≡ cond r (Some n) (cond (a || w) None (since lw lr))
read_slot n true true w lw lr lwn lrn rw' ra wa = absurd (ra refl refl)
read_slot n true false true lw lr lwn lrn rw' ra wa = absurd (rw' refl refl)
read_slot n true false false None lr lwn lrn rw' ra wa = refl
read_slot n true false false (Some x) lr lwn lrn rw' ra wa = cond-true _ _ _ (lt-ltb x n (lwn x refl))
read_slot n false true true lw lr lwn lrn rw' ra wa = absurd (wa refl refl)
read_slot n false true false lw lr lwn lrn rw' ra wa = refl
read_slot n false false true lw None lwn lrn rw' ra wa = refl
read_slot n false false true lw (Some x) lwn lrn rw' ra wa = cond-false _ _ _ (le-ltb n x (let l = lrn x refl in omega arith))
read_slot n false false false lw lr lwn lrn rw' ra wa = refl

-- the slot begins anew, is emptied, or stands for what it stood for
pub slot_access_step : (rec : List Event) (e : Event) (p k : ℕ) → slot_access (e ∷ rec) p k ≡ changed e p k (Some (length rec)) None (slot_access rec p k)
unfolding slot_access begins forgets
slot_access_step rec e p zero = latest_write_step rec e p
slot_access_step rec e p (suc t) =
    (λ d. since (latest_write_step rec e p d) (latest_read_step rec e p t d)) ∙ read_slot (length rec) (reads_by t e p) (allocates e p) (writes_place e p) (latest_write rec p) (latest_read rec p t) (latest_write_within rec p) (latest_read_within rec p t) (λ r w. write_not_read e p w (read_by rec e p t r)) (λ r. read_not_allocates e p (read_by rec e p t r)) (write_not_allocates e p)

since_some : (lw lr : Option ℕ) (w : ℕ) → since lw lr ≡ Some w → lr ≡ Some w
since_some None lr w h = h
since_some (Some x) None w h = h
since_some (Some x) (Some r) w h = (cond_some (ltb x r) (Some r) w h).1

pub slot_access_within : (rec : List Event) (p k w : ℕ) → slot_access rec p k ≡ Some w → w < length rec
unfolding slot_access
slot_access_within rec p zero w h = latest_write_within rec p w h
slot_access_within rec p (suc t) w h = latest_read_within rec p t w (since_some (latest_write rec p) (latest_read rec p t) w h)

pub slot_access_none : (p k : ℕ) → slot_access [] p k ≡ None
unfolding slot_access latest_write latest_read latest
slot_access_none p zero = refl
slot_access_none p (suc t) = refl
