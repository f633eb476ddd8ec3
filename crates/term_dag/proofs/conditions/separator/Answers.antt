use Rattle.std.proofs.Common.{refl}
use Rattle.term_dag.proofs.Cubes.{separates_first, separates_second}
use Rattle.term_dag.proofs.conditions.separator.Goals as goal

pub returns-then-shares_first : goal.returns-then-shares_first
returns-then-shares_first c = separates_second _ _ _ _ _ c.args.nodes.now.typed c.split-a.ensures c.split-b.ensures (c.if-shares_first.ensures refl)

pub returns-then-shares_second : goal.returns-then-shares_second
returns-then-shares_second c = separates_first _ _ _ _ _ c.args.nodes.now.typed c.split-a.ensures c.split-b.ensures (c.if-shares_second.ensures refl)
