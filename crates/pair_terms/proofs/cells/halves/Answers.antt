use Rattle.std.proofs.Common.{◌∙◌, refl}
use Rattle.pair_terms.proofs.CellsTold.{behind_place}
use Rattle.pair_terms.proofs.cells.halves.Goals as goal

pub returns-clause-first : goal.returns-clause-first
returns-clause-first c = c.in_ok-first.ensures.items_if_clones_equal (λ x y e. e)

pub returns-clause-last : goal.returns-clause-last
returns-clause-last c = c.in_ok-last.ensures.items_if_clones_equal (λ x y e. e) ∙ behind_place c.args.words.now c.args.words.now c.args.count refl
