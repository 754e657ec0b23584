-- Events whose numbers are in range. Assumes nothing.
use Rattle.std.specs.Prelude.{◌≡◌, false}
use Rattle.events.specs.declared.Event.{Event}
use Rattle.order.specs.Faults.{no_such_thread, no_such_thing}

-- its threads, its place, lock, flag or object are ones that there are
pub record InBounds (e : Event) : Type 0 where
  pub thread : no_such_thread e ≡ false
  pub thing : no_such_thing e ≡ false
