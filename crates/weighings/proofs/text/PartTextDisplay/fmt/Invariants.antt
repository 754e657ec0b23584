use Rattle.std.proofs.Common.{flat_map, length, take}
use Rattle.std.specs.Fmt.{HasWritten, IsPlainFormatter}
use Rattle.std.specs.List.{zip}
use Rattle.weighings.specs.Texts.{line_text}
use Rattle.weighings.proofs.text.PartTextDisplay.fmt.Given as goal

-- the lines of the steps so far are written behind the title
abbrev pub invariant-loop-step : goal.invariant-loop-step
invariant-loop-step g l =
    IsPlainFormatter l.initial.f → HasWritten g.W.Write.write_str_gives l.initial.f (flat_map line_text (take (length l.yielded) (zip l.self.part.now.steps.now l.self.replies.now))) l.f
