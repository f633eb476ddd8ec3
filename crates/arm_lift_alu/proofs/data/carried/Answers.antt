use Rattle.std.proofs.Common.{ap, ◌∙◌}
use Rattle.machine_spec.specs.Bil as bil
use Rattle.arm_lift_alu.specs.Before.{before}
use Rattle.arm_lift_alu.specs.Computing as lifts
use Rattle.arm_lift_alu.proofs.Pushed.{whole}
use Rattle.arm_lift_alu.proofs.data.carried.Goals as goal

pub returns : goal.returns
returns c =
    let z = lifts.carried c.args.insn c.args.carry c.args.at bil.Empty in
    whole c.push_carried.new.list.items ∙ c.in_ok-push_carried.ensures bil.Empty ∙ ap (λ l. before l z) c.new-list.ensures.items
