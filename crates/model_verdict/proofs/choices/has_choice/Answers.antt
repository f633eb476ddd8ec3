use Rattle.std.proofs.Common.{arith}
use Rattle.model_verdict.proofs.Chosen.{all_zero}
use Rattle.model_verdict.proofs.choices.has_choice.Goals as goal

pub returns : goal.returns
returns c = λ f i. all_zero c.args.choices.now c.loop-choice.choice-index (omega arith) c.loop-choice.invariant i
