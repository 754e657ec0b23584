use Rattle.std.proofs.Common.{length, Ok, sym, refl, ap, ◌∙◌, arith, rules}
use Rattle.std.proofs.lemmas.Bool.{and_from, eqb-true, le-leb}
use Rattle.trace.proofs.Bodies.{length_body_least, length_body_most}
use Rattle.trace.proofs.ReadBack.{reads_back}
use Rattle.trace.proofs.Sheets.{room_left}
use Rattle.trace.proofs.Writing.{length_file, written_oversize, written_no_room, written_ok, file_written, length_header, length_all}
use Rattle.trace.proofs.writer.write.Goals as goal

pub returns-then-events-gt-LONGEST-clause-answer : goal.returns-then-events-gt-LONGEST-clause-answer
returns-then-events-gt-LONGEST-clause-answer c =
    let cs = c.args.counts.now in
    let es = c.args.events.now in
    let fine = and_from _ _ (le-leb (length cs) 256 c.if-counts-gt-MOST_SECTIONS.false) (sym c.if-not-counts_sum_to.ensures) in
    let long = length_file cs es in
    let least = length_body_least es in
    sym (written_oversize cs es (length c.args.out.now) fine (omega (arith, c.if-events-gt-LONGEST.true)))

pub overflow_add-size-2 : goal.overflow_add-size-2
overflow_add-size-2 c =
    let most = length_body_most c.args.events.now in
    let size = c.body_size.ensures in
    search rules

pub returns-then-size-gt-LONGEST-clause-answer : goal.returns-then-size-gt-LONGEST-clause-answer
returns-then-size-gt-LONGEST-clause-answer c =
    let cs = c.args.counts.now in
    let es = c.args.events.now in
    let fine = and_from _ _ (le-leb (length cs) 256 c.if-counts-gt-MOST_SECTIONS.false) (sym c.if-not-counts_sum_to.ensures) in
    let long = length_file cs es in
    sym (written_oversize cs es (length c.args.out.now) fine (omega (arith, c.body_size.ensures, c.if-size-gt-LONGEST.true)))

pub returns-then-out-size-clause-answer : goal.returns-then-out-size-clause-answer
returns-then-out-size-clause-answer c =
    let cs = c.args.counts.now in
    let es = c.args.events.now in
    let fine = and_from _ _ (le-leb (length cs) 256 c.if-counts-gt-MOST_SECTIONS.false) (sym c.if-not-counts_sum_to.ensures) in
    let long = length_file cs es in
    sym (written_no_room cs es (length c.args.out.now) fine (omega (arith, c.body_size.ensures, c.if-size-gt-LONGEST.false)) (omega (arith, c.body_size.ensures, c.if-out-size.true)))

pub put_contents-requires-clause-room : goal.put_contents-requires-clause-room
put_contents-requires-clause-room c =
    let head = length_header (length c.args.counts.now) in
    room_left _ c.put_header.ensures (omega (arith, c.if-out-size.false))

pub put_events-requires : goal.put_events-requires
put_events-requires c =
    let head = length_header (length c.args.counts.now) in
    let contents = length_all c.args.counts.now c.args.events.now in
    room_left _ c.put_contents.ensures (room_left _ c.put_header.ensures (omega (arith, c.body_size.ensures, c.if-out-size.false)))

pub returns-clause-answer : goal.returns-clause-answer
returns-clause-answer c =
    let cs = c.args.counts.now in
    let es = c.args.events.now in
    let fine = and_from _ _ (le-leb (length cs) 256 c.if-counts-gt-MOST_SECTIONS.false) (sym c.if-not-counts_sum_to.ensures) in
    let long = length_file cs es in
    let size = c.body_size.ensures in
    ap Ok (omega arith) ∙ sym (written_ok cs es (length c.args.out.now) fine (omega arith) (omega arith))

pub returns-clause-buffer : goal.returns-clause-buffer
returns-clause-buffer c =
    let first = c.put_header.ensures in
    let second = c.put_contents.ensures in
    let third = c.put_events.ensures.after in
    let name = third.same_buffer ∙ second.same_buffer ∙ first.same_buffer in
    let whole = file_written c.args.counts.now c.args.events.now refl first second third in
    search rules

pub returns-clause-back : goal.returns-clause-back
returns-clause-back c _ =
    let cs = c.args.counts.now in
    let es = c.args.events.now in
    let long = length_file cs es in
    reads_back cs es c.put_events.ensures.words c.if-counts-gt-MOST_SECTIONS.false (eqb-true _ _ (sym c.if-not-counts_sum_to.ensures)) (omega (arith, c.body_size.ensures))
