use Rattle.frame_terms.proofs.HeadlessInputLists.{headless_input_lists}
use Rattle.frame_terms.proofs.terms.headless_input_lists.Goals as goal

pub returns : goal.returns
returns c = headless_input_lists
