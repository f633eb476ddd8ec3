use Rattle.std.proofs.Common.{◌∙◌, sym}
use Rattle.arm_step.proofs.Accesses.{transfer_n}
use Rattle.arm_step.proofs.transfers.TransferStep.act.Goals as goal

pub returns-then-fields-clause-step : goal.returns-then-fields-clause-step
returns-then-fields-clause-step c = rw c.requires.holds (
    let w = c.args.self.word in
    let x = c.fields-fields.ensures in
    rw (sym x.is_load ∙ c.if-fields.true) (c.load.ensures.step w x (transfer_n w c.args.self.row.1))
    )

pub returns-else-fields-clause-step : goal.returns-else-fields-clause-step
returns-else-fields-clause-step c = rw c.requires.holds (
    let w = c.args.self.word in
    let x = c.fields-fields.ensures in
    rw (sym x.is_load ∙ c.if-fields.false) (c.store.ensures.step w x (transfer_n w c.args.self.row.1))
    )
