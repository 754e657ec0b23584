-- A program's command line by the words of clap's contracts. Assumes nothing.
--   command_line p       what clap is told: one FILE, and --exit-code where the program knows it
--   faults p ws          what clap finds in the words ws: nothing where it takes them, else a mistake, or a wish
--                        for help or the version
--   found p ws           what the words name, where they are taken
use Rattle.std.specs.Prelude.{true, cond, List, Some, codes}
use Rattle.clap.specs.Words.{App, Kinds, Row, Rule, Text, fault_of, matches_of, new_app, new_rule, with_rule}
use Rattle.clap.specs.declared.builder.action.ArgAction.TheVariants.{Set, SetTrue}
use Rattle.cli.specs.declared.words.Program.{Program}

abbrev pub file_rule : Rule
file_rule = record (new_rule (codes "file")) { action = Some Set; value_names = 1 }

abbrev pub exit_code_rule : Rule
exit_code_rule = record (new_rule (codes "exit-code")) { long = Some (codes "exit-code"); action = Some SetTrue }

-- a command of this name that has a version
abbrev pub named : Text → App
named name = record (new_app name) { top = record ((new_app name).top) { has_version = true } }

abbrev pub command_line : Program → App
command_line p =
    let plain = with_rule (named p.name.now) file_rule in
    cond p.has_exit_code (with_rule plain exit_code_rule) plain

abbrev pub faults : Program → List Text → Kinds
faults p ws = fault_of (command_line p) ws

abbrev pub found : Program → List Text → List Row
found p ws = matches_of (command_line p) ws
