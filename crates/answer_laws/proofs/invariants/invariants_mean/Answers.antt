use Rattle.answer_laws.proofs.Inductive.{invariants_mean}
use Rattle.answer_laws.proofs.invariants.invariants_mean.Goals as goal

pub returns : goal.returns
returns c = invariants_mean
