use Rattle.std.proofs.Common.{ap, ◌∙◌}
use Rattle.term_spec.specs.Terms.{term_value}
use Rattle.term_dag.specs.Lists.{terms}
use Rattle.term_dag.proofs.Joins.{join_true, join_false, join_same, join_sides}
use Rattle.term_dag.proofs.selections.positive_join.Goals as goal

pub returns-then-bit-gt0 : goal.returns-then-bit-gt0
returns-then-bit-gt0 c = join_true _ _ _ _ c.args.nodes.now.typed c.requires.condition c.requires.when_true c.requires.when_false _ c.in-Some.ensures
    c.if-bit-gt0.true

pub returns-else-bit-gt0 : goal.returns-else-bit-gt0
returns-else-bit-gt0 c = join_false _ _ _ _ c.args.nodes.now.typed c.requires.condition c.requires.when_true c.requires.when_false _ c.in-Some.ensures
    c.if-bit-gt0.false

pub returns-then-first-second : goal.returns-then-first-second
returns-then-first-second c =
    join_same _ _ _ _ c.args.nodes.now.typed c.requires.condition c.requires.when_true c.requires.when_false _ c.side-first.ensures.place c.side-first.ensures.value
    (λ x i e. ap (term_value x (terms c.args.nodes.now)) c.if-first-second.true ∙ c.side-second.ensures.value x i e)

pub returns : goal.returns
returns c = join_sides _ _ _ _ c.args.nodes.now.typed c.requires.condition c.requires.when_true c.requires.when_false _ _ c.side-first.ensures c.side-second.ensures
