use Rattle.std.proofs.Common.{◌≡◌, take}
use Rattle.std.specs.Fmt.{HasWritten, IsPlainFormatter}
use Rattle.weighings.specs.Texts.{demo_text}
use Rattle.weighings.proofs.Parts.{rest_after}
use Rattle.weighings.proofs.text.DemoTextDisplay.fmt.Given as goal

-- the parts so far are written, and the replies to their steps are passed
abbrev pub invariant-loop-part : goal.invariant-loop-part
invariant-loop-part g l = record {
  passed : l.replies ≡ rest_after (take l.part-index l.part-items) l.self.replies.now;
  wrote : IsPlainFormatter l.initial.f → HasWritten g.W.Write.write_str_gives l.initial.f (demo_text (take l.part-index l.part-items) l.self.replies.now) l.f;
}
