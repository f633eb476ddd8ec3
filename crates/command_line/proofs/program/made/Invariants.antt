use Rattle.std.proofs.Common.{◌≡◌, drop, fold}
use Rattle.clap.specs.Words.{app_of}
use Rattle.command_line.specs.Lines.{SharesNone}
use Rattle.command_line.specs.Tables.{app_in, with_group}
use Rattle.command_line.proofs.program.made.Given as goal

abbrev pub invariant-loop-group : goal.invariant-loop-group
invariant-loop-group l =
    (fold with_group (app_of l.command) (drop l.group-index l.row.groups.now) ≡ app_in l.row) × SharesNone l.command
