use Rattle.std.proofs.Common.{ap, arith, bit_and}
use Rattle.term_spec.specs.Terms.{term_word}
use Rattle.term_dag.specs.Lists.{terms}
use Rattle.term_dag.proofs.Ranges.{word_fits}
use Rattle.term_dag.proofs.Shapes.{not_side}
use Rattle.term_dag.proofs.WordFolds.{same_fold}
use Rattle.term_dag.proofs.WordLaws.{turned_twice}
use Rattle.term_dag.proofs.conditions.unless.Goals as goal

pub pair-requires-clause-right : goal.pair-requires-clause-right
pair-requires-clause-right c = (not_side _ _ _ _ _ c.args.nodes.now.typed c.requires.place c.in-Not.ensures).0

pub returns-in-Not : goal.returns-in-Not
returns-in-Not c =
    let ns = terms c.args.nodes.now in
    let n = not_side _ _ _ _ _ c.args.nodes.now.typed c.requires.place c.in-Not.ensures in
    same_fold ns 1 _ _ 1 1 _ (λ x i. ap (bit_and (term_word x ns c.args.side.0)) (turned_twice 1 _ _ (word_fits x ns 1 _ i c.args.nodes.now.typed n.0) (n.1 x)))
    (omega arith) c.pair.ensures
