use Rattle.std.proofs.Common.{◌*◌, ◌+◌, sym, ap, ◌∙◌, inl, inr, arith}
use Rattle.events.specs.Places.{member}
use Rattle.events.proofs.Counts.{member_or}
use Rattle.slots.specs.Made.{held_at}
use Rattle.slots.specs.Serials.{serial_at}
use Rattle.slots.proofs.Found.{race_only, race_nowhere, read_touches, write_touches, commit_touches, Apart, nothing_touched}
use Rattle.slots.proofs.Numbers.{number_past}
use Rattle.slots.proofs.table.Slots.race.Goals as goal

pub returns-in-Read : goal.returns-in-Read
returns-in-Read g c =
    let e = c.args.event in
    let p = c.in-Read.place in
    let ns = c.args.self.now.serials in
    let only = race_only e (serial_at ns) (held_at (g.K.Keeper.meaning c.args.self.now.keeper)) p (λ far k. number_past ns (9 * p + k) (omega arith)) in
    c.race_at.ensures ∙ sym (elim c.in-Read.is [
      | inl is ↦ only (read_touches e p is)
      | inr is ↦ only (write_touches e p is)
    ])

pub returns-in-Commit : goal.returns-in-Commit
returns-in-Commit g c =
    let r = c.in-Commit.reads in
    let w = c.in-Commit.writes in
    c.lowest_race.ensures (λ p out. commit_touches c.args.event r w c.in-Commit.is p (sym (member_or r.word w.word p) ∙ ap (λ v. member v p) (sym c.union.ensures) ∙ out))

pub returns-in_default : goal.returns-in_default
returns-in_default g c =
    let apart : Apart c.args.event.action = record { read = c.in_default.not-Read; write = c.in_default.not-Write; commit = c.in_default.not-Commit } in
    sym (race_nowhere c.args.event (serial_at c.args.self.now.serials) (held_at (g.K.Keeper.meaning c.args.self.now.keeper)) (nothing_touched c.args.event apart))
