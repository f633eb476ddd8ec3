use Rattle.gates.proofs.Bits.{new_value}
use Rattle.gates.proofs.bit.Bit.new.Goals as goal

pub returns-clause-value : goal.returns-clause-value
returns-clause-value c = λ v. new_value v c.args.variable
