use Rattle.term_dag.proofs.Shapes.{own_slice, slice_of_slice}
use Rattle.term_dag.proofs.slices.innermost.Goals as goal

pub loop-step-init : goal.loop-step-init
loop-step-init c = own_slice _ _ _ _ c.requires.within c.requires.order c.requires.fits

pub loop-step-preserved : goal.loop-step-preserved
loop-step-preserved c = slice_of_slice _ _ _ _ _ _ _ _ _ _ c.loop-step.invariant c.in-Some.ensures
