use Rattle.std.proofs.Common.{refl}
use Rattle.std.proofs.lemmas.Result.{IfOk-weaker}
use Rattle.command_line.proofs.Made.{made_sub}
use Rattle.command_line.proofs.program.with_row.Goals as goal

pub returns : goal.returns
returns c =
    IfOk-weaker c.subcommand.result _ _ (λ m adds. made_sub (record { app = refl; globals = c.requires }) c.in_ok-added.ensures adds) c.subcommand.ensures
