use Rattle.std.proofs.Common.{inl, inr, ap}
use Rattle.term_dag.specs.Nodes.{node_of}
use Rattle.mem_cells.proofs.LoadedBytes.{joined_word}
use Rattle.mem_cells.proofs.loads.joined.Goals as goal
use Rattle.mem_cells.proofs.loads.joined.Goals.{then-big, else-big}

pub returns-clause-word : goal.returns-clause-word
returns-clause-word c =
    joined_word c.args.build.now c.make.new.self c.args.big c.args.bytes c.args.word.0 c.args.byte.0 _ _
    (elim c.if-big.branch [ then-big w ↦ inl (w.if-big.true, ap node_of w.node-is) | else-big w ↦ inr (w.if-big.false, ap node_of w.node-is) ])
    c.in_ok-term.ensures.word
