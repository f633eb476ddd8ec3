use Rattle.table_run.specs.Spans.{bytes_of}
use Rattle.table_run.proofs.ContractSteps.{outside_is}
use Rattle.table_run.proofs.contract_steps.leaves_own.Goals as goal

pub returns-in-Some : goal.returns-in-Some
returns-in-Some c e entry at =
    outside_is e c.args.own c.in-Some.own entry (bytes_of c.args.spans.now) c.any_outside.result c.in-Some.is at c.any_outside.ensures
