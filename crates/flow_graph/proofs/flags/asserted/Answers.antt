use Rattle.std.proofs.Common.{arith}
use Rattle.flow_graph.proofs.FlagSets.{asserts_more, asserts_all}
use Rattle.flow_graph.proofs.flags.asserted.Goals as goal

pub loop-i-preserved : goal.loop-i-preserved
loop-i-preserved c =
    asserts_more c.args.asserts.now c.args.index.now c.args.at c.group-low.result.0 c.group-low.result.1 c.loop-i.i c.loop-i.set c.named_flags-set.result
    c.index-asserts-index.result (c.group-low.ensures.places _ c.requires) (omega arith) (omega arith)
    c.named_flags-set.ensures c.loop-i.invariant

pub returns : goal.returns
returns c =
    asserts_all c.args.asserts.now c.args.index.now c.args.at c.group-low.result.0 c.group-low.result.1 c.loop-i.i c.loop-i.set
    (c.group-low.ensures.places _ c.requires) c.group-low.ensures.ordered (omega arith) c.loop-i.invariant
