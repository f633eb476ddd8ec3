use Rattle.machine_spec.proofs.RvLawful.{rows_are_of_the_table}
use Rattle.machine_spec.proofs.machines.rows_are_of_the_table.Goals as goal

pub returns : goal.returns
returns c = rows_are_of_the_table
