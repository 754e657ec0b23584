-- Lives of places, accesses, conflicts and races. Assumes nothing.
--   lives rec p        how many allocations of p's object the record has: the number of p's current life
--   life rec p i       how many of them came before position i
--   writes_in rec p n i, reads_in, touches_in   the event at i accesses p in p's life n
--   Conflict           both access one place in one life and at least one writes it
--   RaceFree           of two conflicting accesses the earlier one is ordered before the other
--   Race rec e p i     the offered event e conflicts at p with the access at i, which is not ordered before it
use Rattle.std.specs.Prelude.{◌≡◌, ℕ, suc, ◌<◌, Bool, true, cond, ◌&&◌, ◌||◌, List, [], ◌∷◌, length, ◌==◌}
use Rattle.events.specs.declared.Event.{Event}
use Rattle.order.specs.Acts.{allocates, writes_place, reads_place, touches}
use Rattle.order.specs.Records.{holds_at, before, Test}
use Rattle.order.specs.Order.{Ordered}

unfoldable pub lives : List Event → ℕ → ℕ
lives [] p = 0
lives (e ∷ rec) p = cond (allocates e p) (suc (lives rec p)) (lives rec p)

unfoldable pub life : List Event → ℕ → ℕ → ℕ
life rec p i = lives (before rec i) p

-- an event that does f to the place p, in p's life n
unfoldable pub in_life : (Event → ℕ → Bool) → ℕ → ℕ → Test
in_life f p n past e = f e p && lives past p == n

abbrev pub writes_in : List Event → ℕ → ℕ → ℕ → Bool
writes_in rec p n i = holds_at rec i (in_life writes_place p n)

abbrev pub reads_in : List Event → ℕ → ℕ → ℕ → Bool
reads_in rec p n i = holds_at rec i (in_life reads_place p n)

abbrev pub touches_in : List Event → ℕ → ℕ → ℕ → Bool
touches_in rec p n i = holds_at rec i (in_life touches p n)

pub record Conflict (rec : List Event) (p n i j : ℕ) : Type 0 where
  pub first : touches_in rec p n i ≡ true
  pub second : touches_in rec p n j ≡ true
  pub write : (writes_in rec p n i || writes_in rec p n j) ≡ true

abbrev pub RaceFree : List Event → Type 0
RaceFree rec = (p n i j : ℕ) → i < j → Conflict rec p n i j → Ordered rec i j

pub record Race (rec : List Event) (e : Event) (p i : ℕ) : Type 0 where
  pub accepted : i < length rec
  pub conflict : Conflict (e ∷ rec) p (lives rec p) i (length rec)
  pub unordered : Ordered (e ∷ rec) i (length rec) → ⊥
