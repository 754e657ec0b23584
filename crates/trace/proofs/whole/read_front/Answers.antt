use Rattle.std.proofs.Common.{◌≡◌, ◌-◌, is_ok, None, vec_items, sym, ap, ◌∙◌, subst, inl, arith}
use Rattle.std.proofs.ResultArms.{chosen}
use Rattle.trace.specs.Layout.{count, body_end, opening}
use Rattle.trace.specs.Reading.{origin, sections_or, inside}
use Rattle.trace.specs.Refusals.{FirstRefusal}
use Rattle.trace.specs.Whole.{IsTraceOf}
use Rattle.trace.proofs.Opened.{ends_ordered}
use Rattle.trace.proofs.Steps.{entered_ok}
use Rattle.trace.proofs.Sections.{Through, through_none, through_more, through_end, through_all, section_grows}
use Rattle.trace.proofs.whole.read_front.Goals as goal
use Rattle.trace.proofs.whole.read_front.Goals.{In-Ok, else-loop-section-test, then-loop-section-test+in_ok-end+in_ok-push+else-is_some+else-section-sections}

-- the file opens, and the reader stands before its first event
opens : (c : In-Ok) → (opening c.args.bytes.now ≡ None) × (c.in-Ok.sections ≡ count c.args.bytes.now) × (c.contents.new.self.at ≡ origin c.args.bytes.now)
opens c =
    let bs = c.args.bytes.now in
    let same = c.new-reader.ensures.0 in
    let told = c.contents.ensures in
    let first = entered_ok bs c.in-Ok.sections (ap (λ b. sections_or b (opening b)) (sym same) ∙ sym told.answer ∙ c.in-Ok.is) in
    (first.0, first.1, told.place ∙ ap (λ b. inside b c.new-reader.result.at) same ∙ ap (inside bs) c.new-reader.ensures.1 ∙ first.2)

pub returns-in-Err : goal.returns-in-Err
returns-in-Err c = inl (subst (λ b. FirstRefusal b c.in-Err.refusal) c.new-reader.ensures.0 c.in-Err.ensures.rule, c.new-2.ensures.items, c.new.ensures.items)

pub loop-section-init : goal.loop-section-init
loop-section-init c =
    let first = opens (goal.at.loop-section-init c).In-Ok in
    let byte = ap (λ p. p.byte) first.2 in (
      c.contents.ensures.bytes ∙ c.new-reader.ensures.0,
      omega arith,
      subst (λ es. Through c.args.bytes.now 1 c.contents.new.self.at (vec_items c.new-2.result) es) (sym c.new.ensures.items) (subst (λ cs. Through c.args.bytes.now 1 c.contents.new.self.at cs _) (sym c.new-2.ensures.items) (through_none c.args.bytes.now c.contents.new.self.at first.2)),
      omega arith,
    )

pub take_section-requires-clause-section_bound : goal.take_section-requires-clause-section_bound
take_section-requires-clause-section_bound c =
    let inv = c.loop-section.invariant in
    let held = c.loop-section.reader.bytes.now in
    let s = c.loop-section.section in
    let here = ap (λ b. body_end b (s - 1)) inv.0 in
    let rise = ends_ordered held (s - 1) s (omega arith) in
    (omega (arith, inv.2.place), omega (arith, inv.2.place))

pub overflow_sub-len : goal.overflow_sub-len
overflow_sub-len c =
    let grows = section_grows _ _ _ _ _ _ _ c.in_ok-end.ensures.section in
    let old = c.loop-section.trace.events.ok.0 in
    let all = c.take_section.new.events.ok.0 in
    omega (arith, c.len-before.ensures, c.len.ensures)

pub returns-then-is_some : goal.returns-then-is_some
returns-then-is_some c =
    let first = opens (goal.at.returns-then-is_some c).In-Ok in
    let inv = c.loop-section.invariant in
    let old = c.loop-section.trace.events.ok.0 in
    let all = c.take_section.new.events.ok.0 in
    let pushed = chosen _ _ _ _ c.push.ensures.items (ap is_ok c.in_ok-push.was) in
    through_end inv.2 _ _ _ _ _ _ first.0 inv.0 (sym c.is_some.ensures ∙ c.if-is_some.true) c.in_ok-end.ensures.section (omega (arith, c.len-before.ensures, c.len.ensures)) pushed

pub loop-section-preserved : goal.loop-section-preserved
loop-section-preserved c =
    let inv = c.loop-section.invariant in
    let old = c.loop-section.trace.events.ok.0 in
    let all = c.take_section.new.events.ok.0 in
    let pushed = chosen _ _ _ _ c.push.ensures.items (ap is_ok c.in_ok-push.was) in
    let more = through_more inv.2 _ _ _ _ _ _ inv.0 (sym c.is_some.ensures ∙ c.if-is_some.false) c.in_ok-end.ensures.section (omega (arith, c.len-before.ensures, c.len.ensures)) pushed in
    (c.in_ok-end.ensures.bytes ∙ inv.0, more.0, more.1, omega arith)

pub returns : goal.returns
returns c =
    let bs = c.args.bytes.now in
    let first = opens (goal.at.returns c).In-Ok in
    let inv = c.loop-section.invariant in
    elim c.loop-section-test.branch [
      | else-loop-section-test w ↦
          subst (λ t. IsTraceOf bs (vec_items t.counts) (vec_items t.events)) (sym w.trace-is) (through_all inv.2 first.0 (omega (arith, first.1)))
      | then-loop-section-test+in_ok-end+in_ok-push+else-is_some+else-section-sections w ↦
          let old = c.loop-section.trace.events.ok.0 in
          let all = w.take_section.new.events.ok.0 in
          let pushed = chosen _ _ _ _ w.push.ensures.items (ap is_ok w.in_ok-push.was) in
          let more = through_more inv.2 _ _ _ _ _ _ inv.0 (sym w.is_some.ensures ∙ w.if-is_some.false) w.in_ok-end.ensures.section (omega (arith, w.len-before.ensures, w.len.ensures)) pushed in
          subst (λ t. IsTraceOf bs (vec_items t.counts) (vec_items t.events)) (sym w.trace-is) (through_all more.1 first.0 (omega (arith, first.1)))
    ]
