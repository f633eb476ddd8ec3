use Rattle.std.proofs.Common.{arith}
use Rattle.clap.specs.Words.{app_of}
use Rattle.command_line.specs.Tables.{with_row}
use Rattle.command_line.proofs.Made.{made_more}
use Rattle.command_line.proofs.program.with_rows.Goals as goal

pub loop-row-preserved : goal.loop-row-preserved
loop-row-preserved c = (
  made_more with_row c.args.rows.now c.loop-row.row-index _ (app_of c.loop-row.command) _ (omega arith) c.loop-row.invariant.0
      c.in_ok-command.ensures,
  c.in_ok-command.ensures.globals,
)
