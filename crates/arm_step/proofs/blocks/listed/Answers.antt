use Rattle.std.proofs.Common.{◌∙◌, ap, length, lit≤}
use Rattle.arm_step.proofs.RegisterLists.{same_list}
use Rattle.arm_step.proofs.blocks.listed.Goals as goal

pub returns-clause-listed : goal.returns-clause-listed
returns-clause-listed c = λ w x. c.count.ensures.count ∙ ap length (same_list c.args.fields.list.bits w 16 x.list (lit≤ tt))
