use Rattle.unroller.proofs.laws.forms_are_right.Goals as goal
use Rattle.unroller.proofs.Looked.{forms_are_right}

pub returns : goal.returns
returns c = forms_are_right
