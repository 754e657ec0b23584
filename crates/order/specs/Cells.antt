-- Cells: a slot as a serial, 0 where it is empty, and a set of holders; and the judgement by cells. Assumes nothing.
--   Cell rec p k n s     the serial n and the set s are those of slot k of place p
--   arrived e s          the set has a holder from which e takes: the access has reached e
--   pending e n s        the serial n of an access that has not reached e
--   cell_witness e p n s the serial of what e races with at p: n and s give the cells of p by slot
--   cell_race e n s      the lowest place with a witness, and the witness's serial: n and s by place and slot
use Rattle.std.specs.Prelude.{◌≡◌, ℕ, ◌+◌, Bool, false, cond, ◌||◌, List, [], ◌∷◌, Some, None, Option, ◌==◌}
use Rattle.events.specs.declared.Event.{Event}
use Rattle.order.specs.Acts.{writes_place, touches}
use Rattle.order.specs.Searches.{first_from, or_else}
use Rattle.order.specs.Judgement.{Finding, found}
use Rattle.order.specs.Slots.{Set, slot_access, taken, SlotSet}

abbrev pub serial_of : Option ℕ → ℕ
serial_of None = 0
serial_of (Some w) = w + 1

pub record Cell (rec : List Event) (p k n : ℕ) (s : Set) : Type 0 where
  pub serial : n ≡ serial_of (slot_access rec p k)
  pub set : SlotSet rec p k s

abbrev pub some_in : List ℕ → Set → Bool
some_in [] s = false
some_in (h ∷ hs) s = s h || some_in hs s

unfoldable pub arrived : Event → Set → Bool
arrived e s = s e.thread || some_in (taken e.action) s

unfoldable pub pending : Event → ℕ → Set → Option ℕ
pending e n s = cond (n == 0 || arrived e s) None (Some n)

unfoldable pub cell_read : Event → (ℕ → ℕ) → (ℕ → Set) → Option ℕ
cell_read e n s = first_from 8 0 (λ t. pending e (n (t + 1)) (s (t + 1)))

unfoldable pub cell_witness : Event → ℕ → (ℕ → ℕ) → (ℕ → Set) → Option ℕ
cell_witness e p n s = cond (touches e p) (or_else (pending e (n 0) (s 0)) (cond (writes_place e p) (cell_read e n s) None)) None

unfoldable pub cell_race : Event → (ℕ → ℕ → ℕ) → (ℕ → ℕ → Set) → Option Finding
cell_race e n s = first_from 64 0 (λ p. found p (cell_witness e p (n p) (s p)))
