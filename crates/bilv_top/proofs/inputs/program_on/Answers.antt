use Rattle.bilv_top.proofs.Founds.{found_over, machine_order}
use Rattle.bilv_top.proofs.inputs.program_on.Goals as goal

pub new-requires-clause-order : goal.new-requires-clause-order
new-requires-clause-order g c = machine_order c.args.image.now g.M.Machine.machine c.requires.machine

pub new-requires-clause-over : goal.new-requires-clause-over
new-requires-clause-over g c = found_over c.args.image.now c.args.found.now g.M.Machine.machine c.requires.machine c.requires.found
