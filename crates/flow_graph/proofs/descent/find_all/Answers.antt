use Rattle.std.proofs.Common.{refl, arith}
use Rattle.graph_nodes.specs.declared.nodes.Letter.TheVariants.{Next}
use Rattle.graph_nodes.specs.declared.nodes.Successor.{Successor}
use Rattle.flow_graph.proofs.Walking.{finding_none, finding_all, finding_more}
use Rattle.flow_graph.proofs.descent.find_all.Goals as goal

pub loop-successor-init : goal.loop-successor-init
loop-successor-init c = finding_none (λ (s : Successor). s.to) c.args.found.now.items c.args.successors.now c.args.seen.now c.requires

pub loop-successor-preserved : goal.loop-successor-preserved
loop-successor-preserved c =
    finding_more (λ (s : Successor). s.to) c.args.found.now.items c.args.successors.now c.loop-successor.successor-index _ (record { letter = Next; to = 0 })
    c.loop-successor.found.items c.find.new.found.items c.loop-successor.seen c.find.new.seen c.loop-successor-test.true refl c.in_ok-find.ensures.seen
    c.in_ok-find.ensures.more c.loop-successor.invariant

pub returns-clause-more : goal.returns-clause-more
returns-clause-more c =
    finding_all (λ (s : Successor). s.to) c.args.found.now.items c.args.successors.now c.loop-successor.successor-index c.loop-successor.found.items
    c.loop-successor.seen (omega arith) c.loop-successor.invariant
