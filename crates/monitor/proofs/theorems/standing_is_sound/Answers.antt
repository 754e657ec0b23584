use Rattle.monitor.proofs.Soundness.{standing_sound}
use Rattle.monitor.proofs.theorems.standing_is_sound.Goals as goal

pub returns : goal.returns
returns g c rec stands = standing_sound stands
