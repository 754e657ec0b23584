-- When a monitor stands for a record. Assumes nothing.
--   its.live, its.meaning   of the keeper, by its interface
use Rattle.std.specs.Prelude.{◌≡◌, ℕ, ◌+◌, ◌<◌, ◌≤◌, List, length}
use Rattle.events.specs.declared.Event.{Event}
use Rattle.keepers.specs.declared.keeper.Keeper.{Ghosts}
use Rattle.order.specs.Cells.{Cell}
use Rattle.order.specs.Conflicts.{RaceFree}
use Rattle.order.specs.Faults.{Lawful}
use Rattle.order.specs.Work.{passes_by}
use Rattle.roster.specs.Follows.{Follows}
use Rattle.slots.specs.Made.{set_at}
use Rattle.slots.specs.Serials.{serial_at}
use Rattle.monitor.specs.declared.monitor.Monitor.{Monitor}

pub record Stands {K : Type 0} {its : Ghosts K} (rec : List Event) (m : Monitor K its) : Type 0 where
  -- it counts the record's events, of which there are at most a million
  pub counts : m.accepted ≡ length rec
  pub few : length rec ≤ 1000000
  -- it knows which threads have started and ended, and who holds each lock
  pub roster : Follows rec m.roster
  -- its keeper has been cleared, and has counted the passes of the record's events
  pub lives : its.live m.slots.keeper
  pub passes : (its.meaning m.slots.keeper).passes ≡ passes_by rec
  -- an event makes at most 128 passes, so that none of the next event's is refused for the limit
  pub spare : (its.meaning m.slots.keeper).passes + 128 ≤ 200000000
  -- each slot has the serial of its latest access and the set of those whom it has reached
  pub cells : (p k : ℕ) → p < 64 → k < 9 → Cell rec p k (serial_at m.slots.serials p k) (set_at (its.meaning m.slots.keeper) p k)
  -- no event of the record was refused, and no two of them race
  pub lawful : Lawful rec
  pub free : RaceFree rec
