use Rattle.std.proofs.Common.{is_ok, Ok, Err, sym, refl, ap, ◌∙◌, subst, arith}
use Rattle.std.proofs.lemmas.Result.{err_from_is_err_and}
use Rattle.trace.specs.Reading.{IsBetweenEvents}
use Rattle.trace.proofs.Opened.{opened_inside, within, between_behind}
use Rattle.trace.proofs.HandedOn.{mapped_ok, moved_so, handed_so}
use Rattle.trace.proofs.reader.Reader.hand_event.Goals as goal

pub read_event-requires : goal.read_event-requires
read_event-requires g c =
    let file = opened_inside c.args.self.now.bytes.now (c.args.self.now.opened c.requires.0) in
    let end = within file c.section-section.result c.section-section.ensures.within.1 in
    let between = c.args.self.now.between c.requires.0 in
    let around = c.section-section.ensures.around in
    (omega arith, (omega arith, between.3))

pub returns-in_err-take : goal.returns-in_err-take
returns-in_err-take g c =
    let p = err_from_is_err_and c.from_residual-in_err-take.result c.from_residual-in_err-take.ensures.1 in
    let y = c.in_err-take.field-0.0 in
    let read = c.read_event.ensures in
    let ok = mapped_ok _ _ c.in_ok-event.event c.map_err.ensures.cases c.in_ok-event.was in
    let failed = c.in_err-take.was in
    record {
      handed = handed_so g.T.Taker.took g.E.From.from_gives c.args.self.now.bytes.now c.args.self.now.at c.section-section.result c.section_end-end.result c.in_ok-event.event c.read_event.result c.args.taker.now c.take.new.self _ c.from_residual-in_err-take.result c.take.result (Err y) c.section-section.ensures.value c.section_end-end.ensures read.answer ok c.take.ensures failed (p.1 ∙ ap Err p.2) c.drop-guard-in_err-take.ensures;
      bytes = refl;
    }

pub invariant_of-self-2 : goal.invariant_of-self-2
invariant_of-self-2 g c =
    let self = c.args.self.now in
    let file = opened_inside self.bytes.now (self.opened c.requires.0) in
    let place = c.section-section.ensures in
    let ok = ap is_ok (mapped_ok _ _ c.in_ok-event.event c.map_err.ensures.cases c.in_ok-event.was) in
    let read = c.read_event.ensures in
    let between = between_behind file self.at c.read_event.new.at c.section-section.result _ place.within.1 place.around.0 (self.between c.requires.0).3 read.section (read.events ok) (read.byte ok) (omega (arith, read.inside ok)) in
    record { opened = λ _. self.opened c.requires.0; between = λ _. subst (IsBetweenEvents self.bytes.now) (sym c.drop-guard-2.ensures) between }

pub returns : goal.returns
returns g c =
    let self = c.args.self.now in
    let read = c.read_event.ensures in
    let told = mapped_ok _ _ c.in_ok-event.event c.map_err.ensures.cases c.in_ok-event.was in
    let ok = ap is_ok told in
    let took = c.in_ok-take.was in
    let place = moved_so self.bytes.now self.at c.read_event.new.at c.section-section.result c.section-section.ensures.value read.section (read.events ok) (read.byte ok) in
    record {
      handed = handed_so g.T.Taker.took g.E.From.from_gives self.bytes.now self.at c.section-section.result c.section_end-end.result c.in_ok-event.event c.read_event.result c.args.taker.now c.take.new.self _ _ c.take.result (Ok tt) c.section-section.ensures.value c.section_end-end.ensures read.answer told c.take.ensures took refl (c.drop-guard-2.ensures ∙ place);
      bytes = refl;
    }
