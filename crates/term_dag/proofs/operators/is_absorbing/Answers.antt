use Rattle.std.proofs.Common.{◌∙◌}
use Rattle.std.proofs.lemmas.Bool.{eqb-true}
use Rattle.term_dag.proofs.WordLaws.{or_ones}
use Rattle.term_dag.proofs.operators.is_absorbing.Goals as goal

pub returns-in-Or-clause-value : goal.returns-in-Or-clause-value
returns-in-Or-clause-value c = λ t a h. rw c.in-Or.is (or_ones c.args.width a c.args.right h (eqb-true _ _ t ∙ c.ones.ensures))
