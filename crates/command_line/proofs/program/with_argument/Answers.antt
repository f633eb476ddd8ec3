use Rattle.std.proofs.Common.{refl}
use Rattle.std.proofs.lemmas.Result.{IfOk-weaker}
use Rattle.command_line.proofs.Made.{made_arg}
use Rattle.command_line.proofs.program.with_argument.Goals as goal

pub returns : goal.returns
returns c =
    IfOk-weaker c.arg.result _ _ (λ m adds. made_arg (record { app = refl; globals = c.requires }) adds c.told.ensures.rule c.told.ensures.local) c.arg.ensures
