use Rattle.std.proofs.Common.{Some, ap, sym, ◌∙◌}
use Rattle.term_dag.proofs.Equal.{same}
use Rattle.term_dag.proofs.Sharing.{interned, typed_new}
use Rattle.term_dag.proofs.dag.Dag.keep.Goals as goal

pub invariant_of-self-2 : goal.invariant_of-self-2
invariant_of-self-2 c = typed_new _ _ _ _ c.in_ok-place.ensures.keys c.self.invariant (rw (← c.self.view_is) at c.requires)

pub returns : goal.returns
returns c =
    let e = c.in_ok-place.ensures in
    let s = e.stored in
    rw (← c.self.view_is) (interned _ _ _ _ _ e.keys c.self.invariant (rw (← c.self.view_is) at c.requires) (s.1 ∙ ap Some (sym (same c.args.node s.0 s.2))))
