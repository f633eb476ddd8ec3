use Rattle.std.proofs.Common.{◌∙◌}
use Rattle.std.proofs.lemmas.Bool.{eqb-true}
use Rattle.term_dag.proofs.WordLaws.{or_zero, and_ones}
use Rattle.term_dag.proofs.operators.is_neutral.Goals as goal

pub returns-in-Or-clause-value : goal.returns-in-Or-clause-value
returns-in-Or-clause-value c = λ t a h. rw c.in-Or.is (or_zero a c.args.right (eqb-true _ _ t))

pub returns-in-And-clause-value : goal.returns-in-And-clause-value
returns-in-And-clause-value c = λ t a h. rw c.in-And.is (and_ones c.args.width a c.args.right h (eqb-true _ _ t ∙ c.ones.ensures))
