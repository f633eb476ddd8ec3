use Rattle.std.proofs.Common.{arith}
use Rattle.model_verdict.proofs.judging.are_in_range.Goals as goal

pub returns-clause-words : goal.returns-clause-words
returns-clause-words c i = omega (arith, c.type_inv.registers i)
