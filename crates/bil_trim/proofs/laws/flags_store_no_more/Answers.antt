use Rattle.bil_trim.proofs.laws.flags_store_no_more.Goals as goal
use Rattle.bil_trim.proofs.Unread.{flags_store_no_more}

pub returns : goal.returns
returns c = flags_store_no_more
