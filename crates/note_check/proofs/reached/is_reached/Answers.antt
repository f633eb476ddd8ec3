use Rattle.std.proofs.Common.{List, sym, subst}
use Rattle.graph_nodes.specs.Places.{AreRising, IsPlace}
use Rattle.graph_nodes.specs.declared.nodes.Node.{Node}
use Rattle.note_check.proofs.Standing.{stands, absent}
use Rattle.note_check.proofs.reached.is_reached.Goals as goal

pub returns-in-None : goal.returns-in-None
returns-in-None c =
    sym (absent c.args.graph.now c.args.at
    (λ i is.
    let rising = subst AreRising (sym c.deref.ensures.value) c.requires in
    let found = c.in-None.ensures.only rising i (subst (λ (l : List Node). IsPlace l c.args.at i) (sym c.deref.ensures.value) is) in
    cc))

pub returns-in-Some : goal.returns-in-Some
returns-in-Some c =
    sym (stands c.args.graph.now c.args.at c.in-Some.field-0
    (subst (λ (l : List Node). IsPlace l c.args.at c.in-Some.field-0) c.deref.ensures.value c.in-Some.ensures.found))
