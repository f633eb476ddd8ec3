use Rattle.bil_trim.proofs.laws.literals_keep_meaning.Goals as goal
use Rattle.bil_trim.proofs.Quiet.{literals_keep_meaning}

pub returns : goal.returns
returns c = literals_keep_meaning
