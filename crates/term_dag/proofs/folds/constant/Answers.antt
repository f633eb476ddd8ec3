use Rattle.term_dag.proofs.WordFolds.{constant_term}
use Rattle.term_dag.proofs.folds.constant.Goals as goal

pub returns-in-Constant : goal.returns-in-Constant
returns-in-Constant c = constant_term _ _ _ _ c.args.nodes.now.typed c.requires.within c.in-Constant.ensures
