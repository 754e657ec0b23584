-- The holders of the places of a set. Assumes nothing.
use Rattle.std.specs.List.{AllByRecursion, list_any}
use Rattle.std.proofs.Common.{◌≡◌, ℕ, zero, suc, ◌+◌, ◌<◌, ◌≤◌, min, Bool, true, false, cond, ◌&&◌, ◌||◌, List, [], ◌∷◌, map, refl, sym, ap, ◌∙◌, inl, inr, subst, arith}
use Rattle.std.proofs.ByRecursion.{All-append}
use Rattle.std.proofs.lemmas.Bool.{cases_lt, lt-ltb, le-ltb, and_from, and_left, and_right}
use mathlib.Core.Path.{fun_ext}
use lib.Bits.{bit_or}
use Rattle.events.specs.Places.{member, those_below}
use Rattle.events.proofs.Counts.{member_or}
use Rattle.keepers.specs.Meaning.{Meaning, is_slot, is_holder}
use Rattle.order.specs.Slots.{place_holders}
use Rattle.order.specs.Cells.{some_in}
use Rattle.slots.specs.Made.{held}
use Rattle.slots.specs.HoldersLeft.{capped}

pub union_holders : (r w : ℕ) → map (λ p. 72 + p) (those_below 64 (member (bit_or r w))) ≡ place_holders r w
unfolding place_holders
union_holders r w = ap (λ (f : ℕ → Bool). map (λ p. 72 + p) (those_below 64 f)) (fun_ext (member_or r w))

-- those below n are below n
those_small : (n m : ℕ) (f : ℕ → Bool) → n ≤ m → AllByRecursion (λ p. p < m) (those_below n f)
unfolding those_below
those_small zero m f l = tt
those_small (suc n) m f l = All-append (λ p. p < m) (those_below n f) _ (those_small n m f (omega arith)) (last (f n))
  where
    last : (b : Bool) → AllByRecursion (λ p. p < m) (cond b (n ∷ []) [])
    last true = (omega arith, tt)
    last false = tt

pub first_small : (f : ℕ → Bool) (p : ℕ) (ps : List ℕ) → those_below 64 f ≡ p ∷ ps → p < 64
first_small f p ps is = (subst (AllByRecursion (λ q. q < 64)) is (those_small 64 64 f (omega arith))).0

-- every one of hs is the number of a holder
abbrev pub AllHolders : List ℕ → Type 0
AllHolders hs = AllByRecursion (λ h. h < 136) hs

-- every holder of a place is below 136
shifted_small : (ps : List ℕ) → AllByRecursion (λ p. p < 64) ps → AllHolders (map (λ p. 72 + p) ps)
shifted_small [] small = tt
shifted_small (p ∷ ps) small = (let l = small.0 in omega arith, shifted_small ps small.1)

pub holders_small : (r w : ℕ) → AllHolders (place_holders r w)
unfolding place_holders
holders_small r w = shifted_small _ (those_small 64 64 _ (omega arith))

pub capped_same : (hs : List ℕ) → AllHolders hs → capped hs ≡ hs
capped_same [] small = refl
capped_same (h ∷ hs) small = let l = small.0 in let same : min h 255 ≡ h = omega arith in (λ d. same d ∷ capped_same hs small.1 d)

-- holders are in a slot's set, all in range
pub held_in_range : (m : Meaning) (slot h : ℕ) → slot < 576 → h < 136 → held m slot h ≡ m.sets slot h
held_in_range m slot h l k = ap (λ b. b && m.sets slot h) (and_from (is_slot slot) (is_holder h) (lt-ltb slot 576 l) (lt-ltb h 136 k))

-- and a number past a byte's end is no holder, whichever it is
capped_held : (m : Meaning) (slot h : ℕ) → held m slot (min h 255) ≡ held m slot h
capped_held m slot h = elim (cases_lt h 136) [
  | inl l ↦ let same : min h 255 ≡ h = omega arith in ap (held m slot) same
  | inr l ↦ nobody (min h 255) (omega arith) ∙ sym (nobody h l)
]
  where
    nobody : (i : ℕ) → 136 ≤ i → held m slot i ≡ false
    nobody i l = and_left _ (m.sets slot i) (and_right (is_slot slot) (is_holder i) (le-ltb i 136 l))

pub some_held : (m : Meaning) (slot : ℕ) (hs : List ℕ) → list_any (held m slot) (capped hs) ≡ some_in hs (held m slot)
some_held m slot [] = refl
some_held m slot (h ∷ hs) = (λ d. capped_held m slot h d || some_held m slot hs d)

-- so it is the slot's own set of which an event in bounds asks
pub some_in_range : (m : Meaning) (slot : ℕ) (hs : List ℕ) → slot < 576 → AllHolders hs → some_in hs (held m slot) ≡ some_in hs (m.sets slot)
some_in_range m slot [] l small = refl
some_in_range m slot (h ∷ hs) l small = (λ d. held_in_range m slot h l small.0 d || some_in_range m slot hs l small.1 d)
