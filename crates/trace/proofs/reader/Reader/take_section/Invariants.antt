use Rattle.std.proofs.Common.{◌≡◌, ◌-◌, ◌<◌, ◌≤◌, vec_items}
use Rattle.trace.specs.Layout.{body_end}
use Rattle.trace.proofs.Sections.{Sofar}
use Rattle.trace.proofs.reader.Reader.take_section.Given as goal

-- the reader is inside the section, and its events so far are behind the old ones
abbrev pub invariant-loop-self : goal.invariant-loop-self
invariant-loop-self l =
    (l.self.bytes.now ≡ l.initial.self.bytes.now) × (0 < l.self.at.byte) × (body_end l.initial.self.bytes.now (l.section - 1) ≤ l.self.at.byte) × (l.self.at.byte ≤ l.end)
    × Sofar l.initial.self.bytes.now l.section l.initial.self.at l.self.at (vec_items l.initial.events) (vec_items l.events)

abbrev pub decreases-loop-self : goal.decreases-loop-self
decreases-loop-self l = l.end - l.self.at.byte
