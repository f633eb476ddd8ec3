use Rattle.std.proofs.lemmas.List.Elements.{Contains-get_or}
use Rattle.frame_price.proofs.lines.edges_cost.Goals as goal

pub aim_cost-requires-clause-aim : goal.aim_cost-requires-clause-aim
aim_cost-requires-clause-aim c = c.requires.edges _ (Contains-get_or c.args.edges.now c.loop-edge.edge-index _ c.loop-edge-test.true)
