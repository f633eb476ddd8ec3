use Rattle.term_dag.proofs.Shapes.{slice_of_extract, slice_of_lower, slice_of_upper, slice_of_extend}
use Rattle.term_dag.proofs.slices.inner.Goals as goal

pub returns-in-Extract : goal.returns-in-Extract
returns-in-Extract c = slice_of_extract _ _ _ _ _ _ _ c.args.nodes.now.typed c.requires.within c.requires.order c.requires.fits c.in-Extract.ensures

pub returns-then-hi-low : goal.returns-then-hi-low
returns-then-hi-low c = slice_of_lower _ _ _ _ _ _ _ _ c.args.nodes.now.typed c.requires.within c.requires.order c.if-hi-low.true c.in-Concat.ensures

pub returns-then-lo-low : goal.returns-then-lo-low
returns-then-lo-low c = slice_of_upper _ _ _ _ _ _ _ _ c.args.nodes.now.typed c.requires.within c.requires.order c.requires.fits c.if-lo-low.true c.in-Concat.ensures

pub returns-then-hi-from : goal.returns-then-hi-from
returns-then-hi-from c = slice_of_extend _ _ _ _ _ _ _ _ c.args.nodes.now.typed c.requires.within c.requires.order c.if-hi-from.true c.in-Extend.ensures
