use Rattle.std.proofs.Common.{refl, sym, subst, ℕ, arith}
use Rattle.term_dag.specs.Nodes.{node_of}
use Rattle.mem_cells.specs.Lowering.{source_of, IsNextOf}
use Rattle.mem_cells.proofs.Lowerings.{start_lowered, next_of}
use Rattle.mem_cells.proofs.lowering.lower_all.Goals as goal

pub loop-place-init : goal.loop-place-init
loop-place-init c =
    let a = c.args.build.now in
    record {
      question = refl;
      lowered = start_lowered (source_of a) a _ _ _ _ c.nodes-count.ensures.typed c.requires.nodes c.requires.reads c.in_ok-with_capacity.ensures.items
          c.in_ok-with_capacity-2.ensures.items c.new-2.ensures.items c.new.ensures.items;
    }

pub lower-requires-clause-next : goal.lower-requires-clause-next
lower-requires-clause-next c =
    let there = c.loop-place in
    subst (λ (d : ℕ). IsNextOf d there.build (node_of c.node-node.result)) (sym there.invariant.lowered.stands.word_count)
    (next_of c.args.build.now there.build there.place (node_of c.node-node.result) there.invariant.question
    (omega (arith, c.loop-place-test.true, c.nodes-count.ensures.count)) c.node-node.ensures c.requires.named)
