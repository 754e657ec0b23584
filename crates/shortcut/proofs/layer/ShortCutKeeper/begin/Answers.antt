use Rattle.std.proofs.Common.{sym, ◌∙◌}
use Rattle.keepers.proofs.Laws.{begun_refused}
use Rattle.shortcut.proofs.Agree.{agree_same}
use Rattle.shortcut.proofs.layer.ShortCutKeeper.begin.Goals as goal

-- a refused call leaves both the meaning below and the table
pub returns-in_err-begin-clause-lives : goal.returns-in_err-begin-clause-lives
returns-in_err-begin-clause-lives g c =
    let does = c.in_err-begin.ensures in
    λ l. (does.lives l.0, agree_same _ _ _ (does.effect l.0 ∙ begun_refused _ c.args.slot c.args.thread _ (sym (does.answer l.0))) l.1)
