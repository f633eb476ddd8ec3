use Rattle.std.proofs.Common.{arith, ap, ◌++◌, ◌∙◌}
use Rattle.flow_graph.proofs.Groups.{listed_more, listed_all}
use Rattle.flow_graph.proofs.targets.listed.Goals as goal

pub loop-i-preserved : goal.loop-i-preserved
loop-i-preserved c =
    listed_more c.args.targets.now c.args.index.now c.args.at c.group-low.result.0 c.group-low.result.1 c.loop-i.i c.loop-i.found.items
    c.extend_from_slice.new.self.items
    c.index-targets-index.result (c.group-low.ensures.places _ c.requires) (omega arith) (omega arith)
    (c.in_ok-extend_from_slice.ensures.items ∙ ap (λ l. c.loop-i.found.items ++ l) c.deref.ensures.value) c.loop-i.invariant

pub returns : goal.returns
returns c =
    listed_all c.args.targets.now c.args.index.now c.args.at c.group-low.result.0 c.group-low.result.1 c.loop-i.i c.loop-i.found.items
    (c.group-low.ensures.places _ c.requires) c.group-low.ensures.ordered (omega arith) c.loop-i.invariant
