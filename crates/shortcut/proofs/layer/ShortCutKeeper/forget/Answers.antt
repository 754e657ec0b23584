use Rattle.std.proofs.Common.{sym, ◌∙◌}
use Rattle.keepers.proofs.Laws.{forgotten_refused}
use Rattle.shortcut.proofs.Agree.{agree_same}
use Rattle.shortcut.proofs.layer.ShortCutKeeper.forget.Goals as goal

-- a refused call leaves both the meaning below and the table
pub returns-in_err-forget-clause-lives : goal.returns-in_err-forget-clause-lives
returns-in_err-forget-clause-lives g c =
    let does = c.in_err-forget.ensures in
    λ l. (does.lives l.0, agree_same _ _ _ (does.effect l.0 ∙ forgotten_refused _ c.args.slot _ (sym (does.answer l.0))) l.1)
