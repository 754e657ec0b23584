-- The question about a slot: what it stands for, and whether that has reached a thread. Assumes nothing.
--   slot_told rec p k t   nothing of an empty slot; else its access's serial and whether that access has reached thread t
--   cell_told n s t       the same of a cell
use Rattle.std.specs.Prelude.{ℕ, ◌+◌, Bool, cond, List, Some, None, Option, ◌==◌}
use Rattle.events.specs.declared.Event.{Event}
use Rattle.order.specs.Holders.{of_thread, reached}
use Rattle.order.specs.Slots.{Set, slot_access}

pub record Told : Type 0 where
  pub serial : ℕ
  pub reached : Bool

unfoldable pub access_told : List Event → ℕ → Option ℕ → Option Told
access_told rec t None = None
access_told rec t (Some w) = Some (record { serial = w + 1; reached = reached rec w (of_thread t) })

abbrev pub slot_told : List Event → ℕ → ℕ → ℕ → Option Told
slot_told rec p k t = access_told rec t (slot_access rec p k)

abbrev pub cell_told : ℕ → Set → ℕ → Option Told
cell_told n s t = cond (n == 0) None (Some (record { serial = n; reached = s t }))
