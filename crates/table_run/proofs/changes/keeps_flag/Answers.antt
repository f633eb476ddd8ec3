use Rattle.std.proofs.Common.{true, ap, ◌∙◌, length}
use Rattle.machine_spec.specs.StateText.{Layout}
use Rattle.notes_value.specs.FrameViews.{is_in}
use Rattle.table_run.proofs.Changed.{flag_there, keeps_flag_is}
use Rattle.table_run.proofs.changes.keeps_flag.Goals as goal

pub returns-clause-keeps : goal.returns-clause-keeps
returns-clause-keeps g c f machine =
    keeps_flag_is f g.M.Machine.machine c.args.contract.now c.args.n true c.is_in.result machine c.requires
    (flag_there g.M.Machine.machine g.M.Machine.form c.args.n c.flag_count.result g.met.M.Machine.fitted
    (c.flag_count.ensures ∙ ap (λ (l : Layout). length l.flags) c.layout.ensures) c.if-n-flag_count.false) (c.is_in.ensures
    ∙ ap (λ s. is_in s c.args.n) c.from.ensures)
