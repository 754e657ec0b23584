use Rattle.std.proofs.Common.{◌∙◌, ap, codes, subst}
use Rattle.clap.specs.Words.{found_of}
use Rattle.clap.proofs.WalkLemmas.{first_value-rows, one_text-rows}
use Rattle.cli.specs.Requests.{Flag, read_file}
use Rattle.cli.proofs.Asking.{flag_read}
use Rattle.cli.proofs.words.reading.Goals as goal

pub returns : goal.returns
returns c =
    let found = found_of c.args.matches.now in
    let flag = c.get_flag.ensures in (
      c.named_file.ensures ∙ ap read_file (c.get_str.ensures ∙ first_value-rows found (codes "file")),
      subst (λ o. Flag o c.get_flag.result) (one_text-rows found (codes "exit-code")) (flag_read _ c.get_flag.result flag.none flag.value flag.other),
    )
