use Rattle.std.proofs.Common.{arith}
use Rattle.clap.specs.Words.{app_of}
use Rattle.command_line.specs.Tables.{with_argument}
use Rattle.command_line.proofs.Made.{made_more}
use Rattle.command_line.proofs.program.with_arguments.Goals as goal

pub loop-argument-preserved : goal.loop-argument-preserved
loop-argument-preserved c = (
  made_more with_argument c.args.arguments.now c.loop-argument.argument-index _ (app_of c.loop-argument.command) _ (omega arith)
      c.loop-argument.invariant.0 c.in_ok-command.ensures,
  c.in_ok-command.ensures.globals,
)
