use Rattle.bil_trim.proofs.laws.literals_add_nothing.Goals as goal
use Rattle.bil_trim.proofs.NoMore.{literals_add_nothing}

pub returns : goal.returns
returns c = literals_add_nothing
