use Rattle.std.proofs.Common.{sym, ◌∙◌}
use Rattle.slots.specs.Searched.{serials_of, sets_of}
use Rattle.slots.proofs.Found.{witness_write, witness_read, witness_none}
use Rattle.slots.proofs.race.Search.witness.Goals as goal

pub returns-then-writes_place : goal.returns-then-writes_place
returns-then-writes_place g c =
    let s = c.args.self.now in
    let p = c.args.place in
    c.pending_any.ensures ∙ sym (witness_write s.event (serials_of s p) (sets_of s p) p (sym c.if-writes_place.ensures))

pub returns-then-reads_place : goal.returns-then-reads_place
returns-then-reads_place g c =
    let s = c.args.self.now in
    let p = c.args.place in
    (rw c.slot_of.ensures at c.pending.ensures)
    ∙ sym (witness_read s.event (serials_of s p) (sets_of s p) p (sym c.if-writes_place.ensures) (sym c.if-reads_place.ensures))

pub returns-else-reads_place : goal.returns-else-reads_place
returns-else-reads_place g c =
    let s = c.args.self.now in
    let p = c.args.place in
    sym (witness_none s.event (serials_of s p) (sets_of s p) p (sym c.if-writes_place.ensures) (sym c.if-reads_place.ensures))
