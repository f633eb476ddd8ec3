use Rattle.std.proofs.Common.{true}
use Rattle.table_run.proofs.Changed.{keeps_register_is}
use Rattle.table_run.proofs.changes.keeps_register.Goals as goal

pub returns-clause-keeps : goal.returns-clause-keeps
returns-clause-keeps g c f machine =
    keeps_register_is f g.M.Machine.machine c.args.contract.now c.args.r true c.is_in.result machine c.requires c.if-not-has_register.ensures.test
    c.is_in.ensures
