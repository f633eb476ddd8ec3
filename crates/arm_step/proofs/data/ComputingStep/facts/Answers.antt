use Rattle.std.proofs.Common.{refl}
use Rattle.arm_step.proofs.FlagNumbers.{same_use}
use Rattle.arm_step.proofs.data.ComputingStep.facts.Goals as goal

pub returns-clause-flags : goal.returns-clause-flags
returns-clause-flags c = λ e.
    let w = c.args.self.word in
    let a = c.assigned-may.ensures in
    same_use c.flags_by.result w c.reads_carry.result c.assigned-may.result.nz c.assigned-may.result.c c.assigned-may.result.v c.assigned-may.result.nz
    c.surely_carry.result c.assigned-may.result.v _ _ _ _ _ _ _
    c.reads_carry.ensures a.nz a.c a.v a.nz c.surely_carry.ensures a.v (c.flags_by.ensures w c.condition-condition.ensures)
