use Rattle.std.proofs.Common.{◌∙◌, length}
use Rattle.frame_spec.specs.Frames.{keeps_flag}
use Rattle.notes_value.specs.FrameViews.{contract_of}
use Rattle.table_run.proofs.GiftLists.{bit_above, few_flags, flag_of, no_flag_above, low_flags}
use Rattle.table_run.proofs.gifts.flags_after.Goals as goal

pub returns-clause-few : goal.returns-clause-few
returns-clause-few g c =
    let most = length g.M.Machine.form.flags in
    let given = c.args.call.now.flags in
    few_flags c.flag_after-v.result c.flag_after-c.result c.flag_after-z.result c.flag_after-n.result c.flag_after-v.ensures.bit c.flag_after-c.ensures.bit
    c.flag_after-z.ensures.bit c.flag_after-n.ensures.bit most g.met.M.Machine.fitted.few_flags
    (λ low. c.flag_after-v.ensures.given low ∙ bit_above 0 given most c.requires low) (λ low. c.flag_after-c.ensures.given low
    ∙ bit_above 1 given most c.requires low)
    (λ low. c.flag_after-z.ensures.given low ∙ bit_above 2 given most c.requires low) (λ low. c.flag_after-n.ensures.given low
    ∙ bit_above 3 given most c.requires low)

pub returns-clause-flags : goal.returns-clause-flags
returns-clause-flags g c f machine =
    flag_of c.flag_after-v.result c.flag_after-c.result c.flag_after-z.result c.flag_after-n.result c.flag_after-v.ensures.bit c.flag_after-c.ensures.bit
    c.flag_after-z.ensures.bit c.flag_after-n.ensures.bit (keeps_flag f (contract_of c.args.contract.now)) (g.M.State.View.view c.args.state.now).flags
    c.args.call.now.flags (low_flags c.args.call.now.flags (length g.M.Machine.form.flags) c.requires g.met.M.Machine.fitted.few_flags)
    (no_flag_above f g.M.Machine.machine g.M.Machine.form (contract_of c.args.contract.now) machine g.met.M.Machine.fitted)
    (c.flag_after-v.ensures.flag f machine) (c.flag_after-c.ensures.flag f machine) (c.flag_after-z.ensures.flag f machine)
    (c.flag_after-n.ensures.flag f machine)
