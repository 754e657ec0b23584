use Rattle.std.proofs.Common.{rules, ap, ap₂, sym, ◌∙◌, ◌≡◌, true, cond}
use Rattle.std.proofs.lemmas.Result.{IfOk-weaker}
use Rattle.clap.specs.Words.{app_of, rule_of, with_rule}
use Rattle.cli.specs.CommandLine.{command_line, exit_code_rule, file_rule, named}
use Rattle.cli.proofs.command.command.Goals as goal

pub returns : goal.returns
returns c =
    let p = c.args.program.now in
    let plain = with_rule (named p.name.now) file_rule in
    let known : p.has_exit_code ≡ true = search rules in
    let file_is : rule_of c.help-file.result ≡ file_rule = search rules in
    let flag_is : rule_of c.help-exit_code.result ≡ exit_code_rule = search rules in
    let named_is : app_of c.version.result ≡ named p.name.now = search rules in
    let plain_is : app_of c.in_ok-command.command ≡ plain = c.in_ok-command.ensures.shape (search rules) ∙ ap₂ with_rule named_is file_is in
    let known_is : with_rule plain exit_code_rule ≡ command_line p = sym (ap (λ b. cond b (with_rule plain exit_code_rule) plain) known) in
    IfOk-weaker c.arg-2.result _ _ (λ r adds. adds.shape (search rules) ∙ ap₂ with_rule plain_is flag_is ∙ known_is) c.arg-2.ensures
