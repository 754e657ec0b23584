-- What the groups of tests answer is the number that refuses the event.
use Rattle.std.proofs.Common.{refl}
use Rattle.std.proofs.lemmas.Result.{err_from_is_err_and}
use Rattle.roster.proofs.Rules.{told}
use Rattle.roster.proofs.roster.Roster.rule.Goals as goal

pub returns-in_err-check_ranges : goal.returns-in_err-check_ranges
returns-in_err-check_ranges c =
    let p = err_from_is_err_and c.from_residual.result c.from_residual.ensures.1 in
    rw (p.1, p.2) (told c.args.self.now c.args.accepted c.args.event _ _ _ _ c.in_err-check_ranges.ensures refl refl refl)

pub returns-in_err-check_states : goal.returns-in_err-check_states
returns-in_err-check_states c =
    let p = err_from_is_err_and c.from_residual-in_err-check_states.result c.from_residual-in_err-check_states.ensures.1 in
    rw (p.1, p.2) (told c.args.self.now c.args.accepted c.args.event _ _ _ _ c.in_ok-check_ranges.ensures c.in_err-check_states.ensures refl refl)

pub returns-in_err-check_locks : goal.returns-in_err-check_locks
returns-in_err-check_locks c =
    let p = err_from_is_err_and c.from_residual-in_err-check_locks.result c.from_residual-in_err-check_locks.ensures.1 in
    rw (p.1, p.2) (told c.args.self.now c.args.accepted c.args.event _ _ _ _ c.in_ok-check_ranges.ensures c.in_ok-check_states.ensures c.in_err-check_locks.ensures refl)

pub returns : goal.returns
returns c = told c.args.self.now c.args.accepted c.args.event _ _ _ _ c.in_ok-check_ranges.ensures c.in_ok-check_states.ensures c.in_ok-check_locks.ensures c.check_count.ensures
