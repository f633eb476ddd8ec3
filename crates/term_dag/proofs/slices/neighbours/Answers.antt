use Rattle.std.proofs.Common.{arith}
use Rattle.std.proofs.Math.Facts.{Fits-of_lt}
use Rattle.term_dag.proofs.ListLaws.{typed_here}
use Rattle.term_dag.proofs.Shapes.{few_bits, neighbours_of}
use Rattle.term_dag.proofs.slices.neighbours.Goals as goal

pub overflow_add-below : goal.overflow_add-below
overflow_add-below c =
    let h = typed_here _ _ _ c.args.nodes.now.typed c.requires.lower c.in-Extract-look.ensures in
    Fits-of_lt (omega (arith, h.1, few_bits _ _ c.args.nodes.now.typed h.2))

pub returns-then-middle-below : goal.returns-then-middle-below
returns-then-middle-below c =
    neighbours_of _ _ _ _ _ _ _ _ _ c.args.nodes.now.typed c.requires.upper c.requires.lower c.in-Extract.ensures c.in-Extract-look.ensures c.if-term-other.true
    c.if-middle-below.true
