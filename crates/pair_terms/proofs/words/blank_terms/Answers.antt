use Rattle.std.proofs.Common.{List, ◌++◌, ap, ◌∙◌}
use Rattle.term_dag.specs.declared.nodes.Term.{Term}
use Rattle.pair_terms.proofs.Blank.{link_ranged, links_blank}
use Rattle.pair_terms.proofs.words.blank_terms.Goals as goal

pub blank_part-requires : goal.blank_part-requires
blank_part-requires c = record {
  range = link_ranged c.args.second c.requires.links.0 c.args.links.now c.loop-i.i _ c.part_of-part.result c.requires.links.1 c.loop-i-test.true
      c.part_of-part.ensures;
}

pub loop-i-preserved : goal.loop-i-preserved
loop-i-preserved c =
    links_blank c.args.dag.now c.loop-i.dag _ c.args.second c.requires.links.0 c.args.links.now c.loop-i.i _ c.part_of-part.result c.loop-i.terms.items
    c.in_ok-more.more.items _ c.requires.links.1 c.loop-i-test.true c.part_of-part.ensures c.loop-i.invariant c.in_ok-more.ensures
    (c.in_ok-extend_from_slice.ensures.items ∙ ap (λ (z : List Term). c.loop-i.terms.items ++ z) c.deref.ensures.value)
