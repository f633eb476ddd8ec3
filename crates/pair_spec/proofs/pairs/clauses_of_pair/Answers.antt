use Rattle.pair_spec.proofs.PairClauses.{clauses_of_pair}
use Rattle.pair_spec.proofs.pairs.clauses_of_pair.Goals as goal

pub returns : goal.returns
returns c = clauses_of_pair
