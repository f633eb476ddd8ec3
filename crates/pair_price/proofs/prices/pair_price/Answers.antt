use Rattle.std.proofs.Common.{◌≡◌, ap, subst, ◌∙◌}
use Rattle.links_lang.specs.Views.{links_of}
use Rattle.question_form.specs.Views.{unrolled_of}
use Rattle.pair_spec.specs.Pairs.{IsPairPrice, links_price}
use Rattle.pair_spec.specs.PairTerms.{added_loads}
use Rattle.unroller.specs.LineCosts.{capped}
use Rattle.unroller.specs.More.{price_with}
use Rattle.pair_price.proofs.OnePairPrice.{one_pair_price}
use Rattle.pair_price.proofs.SidePrices.{both, both_are, both_is, uncapped}
use Rattle.pair_price.proofs.prices.pair_price.Goals as goal

result_is : (c : goal.After-saturating_add) → c.saturating_add.result ≡ capped (both (links_of c.args.links.now) (unrolled_of c.args.first.now) (unrolled_of c.args.second.now))
result_is c =
    let links = links_of c.args.links.now in
    let u = unrolled_of c.args.first.now in
    let w = unrolled_of c.args.second.now in
    c.saturating_add.ensures
    ∙ both_are (price_with u (added_loads links u)) (price_with w (added_loads links w)) (links_price links) c.side_price.result c.side_price-2.result
    c.links_price.result c.saturating_add-sides.result c.side_price.ensures c.side_price-2.ensures c.links_price.ensures c.saturating_add-sides.ensures

pub returns-clause-price : goal.returns-clause-price
returns-clause-price c = λ small a b k one two.
    let links = links_of c.args.links.now in
    let u = unrolled_of c.args.first.now in
    let w = unrolled_of c.args.second.now in
    subst (λ z. IsPairPrice a b k links z) (uncapped (both links u w) c.saturating_add.result (result_is c) small) (both_is a b k links u w one two)

pub returns-clause-only : goal.returns-clause-only
returns-clause-only c = λ a b k n one two price.
    let links = links_of c.args.links.now in
    let u = unrolled_of c.args.first.now in
    let w = unrolled_of c.args.second.now in
    result_is c ∙ ap capped (one_pair_price a b k links (both links u w) n (both_is a b k links u w one two) price)
