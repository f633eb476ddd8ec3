use Rattle.term_names.proofs.Entry.{more_registers}
use Rattle.term_names.proofs.names.part_registers.Goals as goal

pub loop-i-preserved : goal.loop-i-preserved
loop-i-preserved c = more_registers c.args.dag.now c.loop-i.dag _ _ _ _ _ _ _ c.in_ok-push.ensures.items c.loop-i.invariant c.in_ok-term.ensures
