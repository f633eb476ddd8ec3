use Rattle.std.proofs.Common.{◌≡◌, drop}
use Rattle.clap.specs.Words.{app_of}
use Rattle.command_line.specs.Lines.{SharesNone}
use Rattle.command_line.specs.Tables.{with_rows}
use Rattle.command_line.proofs.program.with_rows.Given as goal

abbrev pub invariant-loop-row : goal.invariant-loop-row
invariant-loop-row l =
    (with_rows (app_of l.command) (drop l.row-index l.rows) ≡ with_rows (app_of l.initial.command) l.rows) × SharesNone l.command
