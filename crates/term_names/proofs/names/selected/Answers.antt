use Rattle.std.proofs.Common.{refl}
use Rattle.term_names.proofs.Stated.{slices_selected}
use Rattle.term_names.proofs.names.selected.Goals as goal

pub returns : goal.returns
returns c =
    slices_selected c.args.dag.now _ _ _ c.args.condition.0 c.args.when_true.now c.args.when_false.now _ c.deref.result.now c.deref-2.result.now
    c.deref-3.result.now
    c.deref-4.result.now c.requires.condition c.requires.same c.requires.when_true c.requires.when_false
    (cc) (cc) (cc) (cc) refl c.in_ok-registers.ensures c.in_ok-flags.ensures c.in_ok-memory.ensures
