use Rattle.std.proofs.Common.{List, length, sym, subst, ◌∙◌}
use Rattle.term_dag.specs.declared.nodes.Term.{Term}
use Rattle.weakest_pre.specs.Copies.{AreWithin}
use Rattle.weakest_pre.specs.Folded.{IsMetBy, AreFoldedCopies}
use Rattle.pair_terms.specs.Sides.{program_of_exit}
use Rattle.pair_terms.proofs.TiedMade.{tied_from, roots_within, behind_first}
use Rattle.pair_terms.proofs.sides.tied.Goals as goal

pub folded_copies-requires : goal.folded_copies-requires
folded_copies-requires c =
    let exit = c.args.exit.now in
    record {
      roots = subst (λ (z : List Term). AreWithin z (length exit.passive.dag)) (sym c.deref.ensures.value)
          (roots_within exit.passive.dag exit.met exit.words.items c.in_ok-roots.roots.items c.requires.words.0 c.requires.met c.requires.words.1 c.in_ok-roots.ensures);
    }

pub returns : goal.returns
returns c =
    let exit = c.args.exit.now in
    let facts = c.in_ok-facts.facts in
    let copies = c.in_ok-copies.copies.items in
    tied_from (program_of_exit exit) facts exit.passive.dag c.args.dag.now c.folded_copies.new.dag c.both.new.dag c.args.entry.0 exit.met c.index.result.now
    exit.words.items c.in_ok-roots.roots.items copies c.in_ok-exits.exits.items c.in_ok-root.root.0 c.requires.words.0 c.in_ok-facts.ensures c.requires.entry
    c.requires.words.1 c.in_ok-roots.ensures
    (subst (λ (z : List Term). AreFoldedCopies (IsMetBy facts) exit.passive.dag c.args.dag.now c.folded_copies.new.dag z copies) c.deref.ensures.value
    c.in_ok-copies.ensures)
    c.index.ensures (c.in_ok-exits.ensures.items_if_clones_equal (λ x y e. e) ∙ behind_first _ copies c.deref-2.ensures.value) c.in_ok-root.ensures
