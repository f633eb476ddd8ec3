use Rattle.std.proofs.Common.{refl, arith}
use Rattle.flow_graph.proofs.FlagSets.{lines_more, lines_all}
use Rattle.flow_graph.proofs.flags.ensured.Goals as goal

pub loop-line-preserved : goal.loop-line-preserved
loop-line-preserved c =
    lines_more c.args.lines.now c.loop-line.line-index c.loop-line.set c.named_flags-set.result c.line-item.result c.line-item.result.says
    (omega arith) c.line-item.is refl
    c.named_flags-set.ensures c.loop-line.invariant

pub returns : goal.returns
returns c = lines_all c.args.lines.now c.loop-line.line-index c.loop-line.set (omega arith) c.loop-line.invariant
