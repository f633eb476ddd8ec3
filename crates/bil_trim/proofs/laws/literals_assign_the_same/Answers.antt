use Rattle.bil_trim.proofs.laws.literals_assign_the_same.Goals as goal
use Rattle.bil_trim.proofs.NoMore.{literals_assign_the_same}

pub returns : goal.returns
returns c = literals_assign_the_same
