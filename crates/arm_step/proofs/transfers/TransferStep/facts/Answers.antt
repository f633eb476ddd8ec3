use Rattle.std.proofs.Common.{Bool, false, subst}
use Rattle.machine_spec.specs.Arm.{flag_use, flag_set, none}
use Rattle.machine_law.specs.Facts.{IsFlagUse}
use Rattle.arm_step.proofs.transfers.TransferStep.facts.Goals as goal

pub returns-clause-flags : goal.returns-clause-flags
returns-clause-flags c = λ e.
    let w = c.args.self.word in
    subst (λ (r : Bool). IsFlagUse c.flags_by.result (flag_use w (flag_set false r false) none none)) c.is_rrx.ensures
    (c.flags_by.ensures w c.condition-condition.ensures)
