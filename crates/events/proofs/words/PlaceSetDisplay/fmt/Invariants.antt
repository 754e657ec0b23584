use Rattle.std.proofs.Common.{◌++◌, decimal, flat_map}
use Rattle.std.specs.Fmt.{HasWritten, IsPlainFormatter}
use Rattle.events.specs.Texts.{after_space}
use Rattle.events.proofs.words.PlaceSetDisplay.fmt.Given as goal

abbrev pub invariant-loop-place : goal.invariant-loop-place
invariant-loop-place g l =
    IsPlainFormatter l.fn.f → HasWritten g.W.Write.write_str_gives l.fn.f (decimal l.first ++ flat_map after_space l.yielded) l.f
