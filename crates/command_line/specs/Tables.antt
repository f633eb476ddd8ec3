-- What `clap` is told of the tables of arguments and subcommands.
use Rattle.std.specs.Prelude.{List, codes, fold, true}
use Rattle.std.specs.Borrow.{Bor}
use Rattle.clap.specs.Words.{App, Rule, new_app, with_rule, with_subcommand}
use Rattle.command_line.specs.Lines.{arm_option, file_argument, frame_option, number_argument, number_option, question_option, rvc_option}
use Rattle.command_line.specs.declared.table.Argument.{Argument}
use Rattle.command_line.specs.declared.table.Argument.TheVariants.{File, Number, Budget, Question, Frame, Arm, Compressed}
use Rattle.command_line.specs.declared.table.Subcommand.{Subcommand}

abbrev pub rule_in : Argument → Rule
rule_in (File name) = file_argument name.now
rule_in (Number name low high) = number_argument name.now low high
rule_in (Budget name range) = number_option name.now range.low range.high range.written.now
rule_in Question = question_option
rule_in Frame = frame_option
rule_in Arm = arm_option
rule_in Compressed = rvc_option

-- a command with one argument more, and with several
abbrev pub with_argument : App → Argument → App
with_argument a x = with_rule a (rule_in x)

abbrev pub with_arguments : App → List Argument → App
with_arguments = fold with_argument

abbrev pub with_group : App → Bor (List Argument) → App
with_group a group = with_arguments a group.now

-- the command of a row
abbrev pub app_in : Subcommand → App
app_in row = fold with_group (new_app row.name.now) row.groups.now

-- a command with the subcommand of one row more, and of several
abbrev pub with_row : App → Subcommand → App
with_row a row = with_subcommand a (app_in row).top

abbrev pub with_rows : App → List Subcommand → App
with_rows = fold with_row

-- the program without its subcommands
abbrev pub bare_app : App
bare_app = record (new_app (codes "bilv")) {
  top = record
      (new_app (codes "bilv")).top { subcommand_required = true };
}
