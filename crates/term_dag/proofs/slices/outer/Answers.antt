use Rattle.std.proofs.Common.{◌+◌, ◌-◌, ◌/◌, ◌^◌, ap, sym, ◌∙◌, arith}
use Rattle.std.proofs.lemmas.Nat.{mod_below, pow_pos}
use Rattle.word_spec.specs.Words as words
use Rattle.term_spec.specs.Terms.{HasWidth, extend, term_word, width_of}
use Rattle.term_dag.specs.Lists.{terms}
use Rattle.term_dag.proofs.ListLaws.{typed_here}
use Rattle.term_dag.proofs.Ranges.{word_fits}
use Rattle.term_dag.proofs.Shapes.{few_bits, extend_side}
use Rattle.term_dag.proofs.WordFolds.{constant_term, fixed}
use Rattle.term_dag.proofs.WordLaws.{whole, no_bits}
use Rattle.term_dag.proofs.slices.outer.Goals as goal

pub width_of_node-width-requires : goal.width_of_node-width-requires
width_of_node-width-requires c = record {
  over = typed_here _ _ _ c.args.nodes.now.typed c.requires.within c.look-node.ensures;
}

pub returns-then-hi-width : goal.returns-then-hi-width
returns-then-hi-width c =
    let e = sym (ap width_of c.look-node.ensures) ∙ sym c.width_of_node-width.ensures in
    let w : HasWidth (terms c.args.nodes.now) (c.args.hi + 1 - c.args.lo) c.args.term.0 =
    (c.requires.within, omega (arith, e, c.if-hi-width.true, c.if-lo-eq0.true)) in
    record {
      place = w;
      value = λ x i. whole c.args.hi c.args.lo _ c.if-lo-eq0.true (word_fits x _ (c.args.hi + 1 - c.args.lo) _ i c.args.nodes.now.typed w);
    }

pub new-requires-clause-few : goal.new-requires-clause-few
new-requires-clause-few c = (typed_here _ _ _ c.args.nodes.now.typed c.requires.within c.in-Constant.ensures).0.1

pub new-requires-clause-below : goal.new-requires-clause-below
new-requires-clause-below c = (typed_here _ _ _ c.args.nodes.now.typed c.requires.within c.in-Constant.ensures).1

pub returns-else-lo-from : goal.returns-else-lo-from
returns-else-lo-from c =
    let y = extend_side _ _ _ _ _ _ c.args.nodes.now.typed c.requires.within c.in-Extend.ensures in
    let ns = terms c.args.nodes.now in
    let n = c.in-Extend.from in
    let f = few_bits ns c.args.term.0 c.args.nodes.now.typed c.requires.within in
    fixed ns (c.args.hi + 1 - c.args.lo) _ 0 0 (omega (arith, c.requires.order)) (omega (arith, f, c.requires.fits)) (pow_pos (c.args.hi + 1 - c.args.lo))
    (λ x i.
    no_bits c.args.hi c.args.lo n (term_word x ns c.in-Extend.term.0) (word_fits x ns n c.in-Extend.term.0 i c.args.nodes.now.typed y.0) c.if-lo-from.false
    ∙ ap (words.bits c.args.hi c.args.lo) (sym (y.1 x ∙ ap (λ s. extend s n c.in-Extend.to (term_word x ns c.in-Extend.term.0)) c.if-signed.false)))

pub returns-in-Constant : goal.returns-in-Constant
returns-in-Constant c =
    let ns = terms c.args.nodes.now in
    let f = few_bits ns c.args.term.0 c.args.nodes.now.typed c.requires.within in
    let k = constant_term _ _ _ _ c.args.nodes.now.typed c.requires.within c.in-Constant.ensures in
    let e = c.extract.ensures.bits ∙ ap (words.bits c.args.hi c.args.lo) c.new.ensures.bits in
    let b = mod_below (c.in-Constant.value / 2 ^ c.args.lo) (2 ^ (c.args.hi + 1 - c.args.lo)) (pow_pos (c.args.hi + 1 - c.args.lo)) in
    fixed ns (c.args.hi + 1 - c.args.lo) _ 0 _ (omega (arith, c.requires.order)) (omega (arith, f, c.requires.fits)) (omega (arith, e, b))
    (λ x i. e ∙ ap (words.bits c.args.hi c.args.lo) (sym (k.value x)))
