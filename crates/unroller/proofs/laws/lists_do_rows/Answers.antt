use Rattle.unroller.proofs.laws.lists_do_rows.Goals as goal
use Rattle.unroller.proofs.Literals.{lists_do_rows}

pub returns : goal.returns
returns c = lists_do_rows
