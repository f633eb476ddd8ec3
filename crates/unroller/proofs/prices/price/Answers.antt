use Rattle.std.proofs.Common.{◌≡◌, ap, refl, ◌∙◌, arith, ℕ, ◌+◌}
use Rattle.walk_spec.specs.Prices.{term_price, cell_price, loads_of, stores_of, edges_of, known_of}
use Rattle.question_form.specs.Views.{unrolled_of}
use Rattle.unroller.specs.LineCosts.{capped}
use Rattle.unroller.proofs.prices.price.Goals as goal

pub returns : goal.returns
returns c =
    let u = unrolled_of c.args.u.now in
    let none : loads_of u + 0 ≡ loads_of u = omega arith in
    c.price_with.ensures 0 refl
    ∙ ap (λ (z : ℕ). capped (term_price u + cell_price z (stores_of u) (edges_of u) (known_of u))) none
