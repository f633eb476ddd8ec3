use Rattle.std.proofs.Common.{arith}
use Rattle.gates.proofs.Bits.{up_value, down_value}
use Rattle.gates.proofs.bit.Bit.negation.Goals as goal

pub returns-then-self-eq0-clause-value : goal.returns-then-self-eq0-clause-value
returns-then-self-eq0-clause-value c = λ v. up_value v c.args.self.code (omega arith)

pub returns-else-self-eq0-clause-value : goal.returns-else-self-eq0-clause-value
returns-else-self-eq0-clause-value c = λ v. down_value v c.args.self.code (omega arith)
