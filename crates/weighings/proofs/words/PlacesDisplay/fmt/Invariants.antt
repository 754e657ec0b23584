use Rattle.std.proofs.Common.{◌++◌, decimal, flat_map, codes}
use Rattle.std.specs.Fmt.{HasWritten, IsPlainFormatter}
use Rattle.weighings.specs.Texts.{after_comma}
use Rattle.weighings.proofs.words.PlacesDisplay.fmt.Given as goal

-- the places so far are written
abbrev pub invariant-loop-place : goal.invariant-loop-place
invariant-loop-place g l =
    IsPlainFormatter l.fn.f → HasWritten g.W.Write.write_str_gives l.fn.f ((codes "place " ++ decimal l.first) ++ flat_map after_comma l.yielded) l.f
