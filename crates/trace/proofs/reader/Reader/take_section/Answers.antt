use Rattle.std.proofs.Common.{◌+◌, ◌-◌, ◌*◌, ◌<◌, ◌≤◌, length, get_or, vec_items, sym, ap, ◌∙◌, subst, arith}
use Rattle.trace.specs.Codec.{size}
use Rattle.trace.specs.Layout.{count, body_end, opening}
use Rattle.trace.specs.Reading.{site, taken, moved}
use Rattle.trace.proofs.Entries.{body_end_none}
use Rattle.trace.proofs.Opened.{opened_inside, within, ends_ordered, none_from, section_is}
use Rattle.trace.proofs.Steps.{taken_ok}
use Rattle.trace.proofs.Refusals.{event_refusal}
use Rattle.trace.proofs.Sections.{sofar_more, sofar_stops, pushed_ok, pushed_refused}
use Rattle.trace.proofs.reader.Reader.take_section.Goals as goal

pub hand_event-requires : goal.hand_event-requires
hand_event-requires c =
    let self = c.args.self.now in
    let inv = c.loop-self.invariant in
    let file = opened_inside self.bytes.now (self.opened c.requires.byte_nonzero.0) in
    let end = within file c.args.section c.requires.byte_nonzero.1.1 in
    let same = ap length inv.0 in
    (inv.1, omega arith)

pub returns-in-Err-Refused-clause-section : goal.returns-in-Err-Refused-clause-section
returns-in-Err-Refused-clause-section c =
    let self = c.args.self.now in
    let s = c.args.section in
    let inv = c.loop-self.invariant in
    let held = c.loop-self.self.bytes.now in
    let q = c.loop-self.self.at in
    let q' = c.hand_event.new.self.at in
    let f = c.in-Err-Refused.refusal in
    let file = opened_inside self.bytes.now (self.opened c.requires.byte_nonzero.0) in
    let end = within file s c.requires.byte_nonzero.1.1 in
    let none = none_from (opening self.bytes.now) (self.opened c.requires.byte_nonzero.0) in
    let start = body_end_none self.bytes.now in
    let rise = ends_ordered self.bytes.now 0 (s - 1) (omega arith) in
    let low : 4 + 8 * count self.bytes.now ≤ q.byte = omega (arith, inv.2) in
    let more : q.byte < length self.bytes.now = omega arith in
    let told = pushed_refused vec_items (taken held q) (site held q) q (moved held q) q' c.loop-self.events c.hand_event.new.taker c.in-Err-Refused.field-0 f c.in-Err-Refused.field-0-is c.in-Err-Refused.ensures.handed in
    let refusal = event_refusal self.bytes.now q f none low more (sym (ap (λ b. taken b q) inv.0) ∙ told.0) in
    let body = refusal.site.section in
    let there = section_is self.bytes.now f.at.section q.byte body.some body.last body.from body.before in
    let here = section_is self.bytes.now s q.byte c.requires.byte_nonzero.1.0 c.requires.byte_nonzero.1.1 inv.2 (omega arith) in
    (sym there ∙ here, (inv.4.events, told.1 ∙ inv.4.items, sofar_stops inv.4 more f refusal))

pub loop-self-preserved : goal.loop-self-preserved
loop-self-preserved c =
    let self = c.args.self.now in
    let inv = c.loop-self.invariant in
    let file = opened_inside self.bytes.now (self.opened c.requires.byte_nonzero.0) in
    let end = within file c.args.section c.requires.byte_nonzero.1.1 in
    let held = c.loop-self.self.bytes.now in
    let q = c.loop-self.self.at in
    let q' = c.hand_event.new.self.at in
    let kept = pushed_ok vec_items (taken held q) (site held q) q (moved held q) q' c.loop-self.events c.hand_event.new.taker c.in-Ok.field-0 c.in-Ok.ensures.handed in
    let ok = sym (ap (λ b. taken b q) inv.0) ∙ kept.1 in
    let at = section_is self.bytes.now c.args.section q.byte c.requires.byte_nonzero.1.0 c.requires.byte_nonzero.1.1 inv.2 (omega arith) in
    let place = kept.3 ∙ ap (λ b. moved b q) inv.0 in
    let fits = (taken_ok self.bytes.now q _ ok).1 in
    let fits' = subst (λ s. q.byte + size (get_or self.bytes.now q.byte 0) ≤ body_end self.bytes.now s) at fits in
    let byte = ap (λ p. p.byte) place in
    (c.hand_event.ensures.bytes ∙ inv.0, omega arith, omega arith, omega arith, sofar_more inv.4 (omega arith) q' kept.0 _ at ok place kept.2)
