use Rattle.std.proofs.Common.{◌+◌, length, get_or, sym, arith}
use Rattle.std.proofs.ByRecursion.{All-more}
use Rattle.trace.specs.Codec.{event_bytes, Words}
use Rattle.trace.proofs.Bodies.{blank, body_none, body_more, length_body_more, length_body_take}
use Rattle.trace.proofs.Sheets.{adds_none, adds_more, adds_known, room_left}
use Rattle.trace.proofs.sheet.Sheet.put_events.Goals as goal

pub loop-event-init : goal.loop-event-init
loop-event-init c = record { put = adds_known (adds_none c.args.self.now) (sym body_none); words = tt }

pub put_event-requires : goal.put_event-requires
put_event-requires c =
    let es = c.args.events.now in
    let i = c.loop-event.event-index in
    let more = length_body_more es i c.loop-event-test.true in
    let least = length_body_take es (i + 1) in
    room_left (length (event_bytes (get_or es i blank))) c.loop-event.invariant.put (omega arith)

pub loop-event-preserved : goal.loop-event-preserved
loop-event-preserved c =
    let es = c.args.events.now in
    let i = c.loop-event.event-index in
    record {
      put = adds_known (adds_more c.loop-event.invariant.put c.put_event.ensures.after (omega arith)) (sym (body_more es i c.loop-event-test.true));
      words = All-more (λ x. Words x.action) es i blank c.loop-event-test.true c.loop-event.invariant.words c.put_event.ensures.words;
    }
