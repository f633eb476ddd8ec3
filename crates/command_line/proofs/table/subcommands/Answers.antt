use Rattle.std.proofs.Common.{refl}
use Rattle.command_line.specs.Lines.{bilv_app}
use Rattle.command_line.proofs.table.subcommands.Goals as goal

pub returns : goal.returns
unfolding bilv_app
returns c = refl
