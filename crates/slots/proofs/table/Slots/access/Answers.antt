use Rattle.std.proofs.Common.{◌+◌, ◌*◌, sym, ap, ◌∙◌, arith}
use Rattle.slots.specs.Made.{made}
use Rattle.slots.specs.Serials.{serial_at}
use Rattle.slots.proofs.Accesses.{read_ruled, write_ruled, allocate_ruled, commit_ruled, Inert, no_accesses, inert_ruled}
use Rattle.slots.proofs.table.Slots.access.Goals as goal

pub returns-in-Read-clause-serials : goal.returns-in-Read-clause-serials
returns-in-Read-clause-serials g c p k a b = c.read.ensures.serials p k a b ∙ read_ruled c.args.event p k c.args.serial (serial_at c.args.self.now.serials p k) c.in-Read.place c.in-Read.is

pub returns-in-Write-clause-serials : goal.returns-in-Write-clause-serials
returns-in-Write-clause-serials g c p k a b = c.write.ensures.serials p k a b ∙ write_ruled c.args.event p k c.args.serial (serial_at c.args.self.now.serials p k) c.in-Write.place c.in-Write.is

pub returns-in-Allocate-clause-serials : goal.returns-in-Allocate-clause-serials
returns-in-Allocate-clause-serials g c p k a b = c.forget.ensures.serials (9 * p + k) (omega arith) ∙ allocate_ruled c.args.event p k c.args.serial (serial_at c.args.self.now.serials p k) c.in-Allocate.object c.in-Allocate.is b

pub returns-in-Commit-clause-serials : goal.returns-in-Commit-clause-serials
returns-in-Commit-clause-serials g c p k a b = c.commit.ensures.serials p k a b ∙ commit_ruled c.args.event p k c.args.serial (serial_at c.args.self.now.serials p k) c.in-Commit.reads c.in-Commit.writes c.in-Commit.is

pub returns-in_default : goal.returns-in_default
returns-in_default g c =
    let inert : Inert c.args.event.action = record { read = c.in_default.not-Read; write = c.in_default.not-Write; allocate = c.in_default.not-Allocate; commit = c.in_default.not-Commit } in
    record {
      keeper = λ live. (live, sym (ap (λ cs. made cs (g.K.Keeper.meaning c.args.self.now.keeper)) (no_accesses c.args.event.thread c.args.event.action inert)));
      serials = λ p k a b. inert_ruled c.args.event inert p k c.args.serial (serial_at c.args.self.now.serials p k);
    }
