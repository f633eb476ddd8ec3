use Rattle.term_names.specs.Views.{form_of, names_of}
use Rattle.pair_terms.proofs.WordTerms.{bytes_more}
use Rattle.pair_terms.proofs.words.bytes.Goals as goal

pub loop-i-preserved : goal.loop-i-preserved
loop-i-preserved c =
    let n = c.args.names.now in
    bytes_more c.args.dag.now c.loop-i.dag _ (form_of n) (names_of n) c.args.low c.loop-i.i c.loop-i.terms.items _ c.in_ok-term.term c.requires.names
    c.loop-i.invariant c.in_ok-term.ensures c.in_ok-push.ensures.items
