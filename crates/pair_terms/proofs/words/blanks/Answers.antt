use Rattle.pair_terms.proofs.Blank.{blanks_made}
use Rattle.pair_terms.proofs.words.blanks.Goals as goal

pub returns : goal.returns
returns c =
    blanks_made _ _ c.args.width c.args.count c.in_ok-term.term c.in_ok-terms.terms.items c.in_ok-term.ensures
    (c.in_ok-terms.ensures.items_if_clones_equal (λ y e. e))
