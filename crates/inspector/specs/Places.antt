-- Where events stand in a file. Assumes nothing.
--   behind at events     the spot behind the events, of which the first stands at the spot `at`
--   Fits at events       these events end within a file's bytes
use Rattle.std.specs.Prelude.{◌+◌, ◌≤◌, List, length}
use Rattle.events.specs.declared.Event.{Event}
use Rattle.trace.specs.File.{body}
use Rattle.inspector.specs.declared.listing.Spot.{Spot}

abbrev pub behind : Spot → List Event → Spot
behind at events = record { number = at.number + length events; byte = at.byte + length (body events) }

abbrev pub Fits : Spot → List Event → Type 0
Fits at events = (at.number + length events ≤ 65537) × (at.byte + length (body events) ≤ 65536)
