use Rattle.bil_trim.proofs.laws.flags_keep_meaning.Goals as goal
use Rattle.bil_trim.proofs.Unread.{flags_keep_meaning}

pub returns : goal.returns
returns c = flags_keep_meaning
