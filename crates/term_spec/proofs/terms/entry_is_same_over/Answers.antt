use Rattle.term_spec.proofs.EntrySame.{entry_is_same_over}
use Rattle.term_spec.proofs.terms.entry_is_same_over.Goals as goal

pub returns : goal.returns
returns c = entry_is_same_over
