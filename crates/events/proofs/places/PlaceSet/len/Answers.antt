use Rattle.std.proofs.Common.{sym, arith}
use Rattle.events.proofs.Counts.{places_ones}
use Rattle.events.proofs.places.PlaceSet.len.Goals as goal

pub returns-clause-places : goal.returns-clause-places
returns-clause-places c = sym (places_ones c.args.self.word (omega arith))
