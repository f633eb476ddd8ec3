use Rattle.std.proofs.lemmas.List.Elements.{Contains-get_or}
use Rattle.frame_price.proofs.EvaluatedLines.{roots_on}
use Rattle.frame_price.proofs.lines.roots_cost.Goals as goal

pub part_cost-requires-clause-bounds : goal.part_cost-requires-clause-bounds
part_cost-requires-clause-bounds c = c.requires.roots _ (Contains-get_or c.args.roots.now c.loop-root.root-index _ c.loop-root-test.true)

pub loop-root-preserved : goal.loop-root-preserved
loop-root-preserved c =
    roots_on c.args.u.now c.args.roots.now c.loop-root.root-index _ c.loop-root.total c.part_cost.result c.sum-total.result c.loop-root-test.true
    c.loop-root.invariant c.part_cost.ensures c.sum-total.ensures
