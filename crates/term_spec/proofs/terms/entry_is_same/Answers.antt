use Rattle.term_spec.proofs.EntrySame.{entry_is_same}
use Rattle.term_spec.proofs.terms.entry_is_same.Goals as goal

pub returns : goal.returns
returns c = entry_is_same
