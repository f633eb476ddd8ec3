use Rattle.std.proofs.Common.{subst}
use Rattle.term_spec.specs.Terms.{AreTyped}
use Rattle.term_dag.proofs.WordFolds.{constant_term}
use Rattle.term_dag.proofs.dag.Dag.constant.Goals as goal

pub returns-in-Constant-clause-some : goal.returns-in-Constant-clause-some
returns-in-Constant-clause-some c =
    (constant_term c.args.self.now c.args.term.0 _ _ (subst AreTyped c.self.view_is c.self.invariant) c.requires c.in-Constant.ensures).value
