use Rattle.std.proofs.Common.{List, length, sym, subst, arith}
use Rattle.term_dag.specs.declared.nodes.Term.{Term}
use Rattle.weakest_pre.specs.Copies.{AreWithin, AreCopiesOf}
use Rattle.weakest_pre.specs.Folded.{IsMetBy}
use Rattle.weakest_pre.proofs.FoldedCopies.{folded_as_are, folded_within, folded_onto}
use Rattle.weakest_pre.proofs.folding.folded_copies.Goals as goal

pub returns-then-are_none : goal.returns-then-are_none
returns-then-are_none c = folded_as_are (IsMetBy c.args.facts.now) c.args.source.now c.args.dag.now _ c.args.roots.now _ c.in_ok-terms.ensures

pub returns-then-nodes : goal.returns-then-nodes
returns-then-nodes c = folded_as_are (IsMetBy c.args.facts.now) c.args.source.now c.args.dag.now _ c.args.roots.now _ c.in_ok-terms-2.ensures

pub returns : goal.returns
returns c =
    let old = c.args.dag.now in
    let new = c.copied-2.new.dag in
    let scratch = c.folded_roots.new.dag in
    let folded = c.in_ok-folded.folded.items in
    let terms = c.in_ok-terms-3.terms.items in
    folded_onto (IsMetBy c.args.facts.now) c.args.source.now scratch old new c.args.roots.now folded terms
    (omega (arith, c.nodes.ensures.count, c.nodes-2.ensures.count)) c.in_ok-folded.ensures
    (subst (λ (l : List Term). AreCopiesOf scratch old new l terms) c.deref.ensures.value c.in_ok-terms-3.ensures)

pub copied-requires-2 : goal.copied-requires-2
copied-requires-2 c =
    let scratch = c.folded_roots.new.dag in
    record {
      roots = subst (λ (l : List Term). AreWithin l (length scratch)) (sym c.deref.ensures.value)
          (folded_within (IsMetBy c.args.facts.now) c.args.source.now scratch c.args.roots.now c.in_ok-folded.folded.items c.in_ok-folded.ensures);
    }
