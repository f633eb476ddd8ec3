use Rattle.std.proofs.Common.{ap, ◌∙◌, ℕ}
use Rattle.bilv_spec.specs.Points.{products}
use Rattle.notes_value.specs.Views.{expr_of}
use Rattle.unroller.specs.LineCosts.{capped, others, parts_price}
use Rattle.unroller.proofs.costs.line_cost.Goals as goal
use Rattle.unroller.proofs.Capped.{parts_are}

pub returns : goal.returns
returns c =
    let e = expr_of c.args.expr.now in
    record {
      price =
          c.priced.ensures.price ∙ ap (λ (z : ℕ). parts_price z c.parts_of.result.others c.parts_of.result.values) c.parts_of.ensures.products
          ∙ ap (λ (z : ℕ). parts_price (capped (products e)) z c.parts_of.result.values) c.parts_of.ensures.others
          ∙ ap (λ (z : ℕ). parts_price (capped (products e)) (capped (others e)) z) c.parts_of.ensures.values ∙ parts_are e;
      loads = c.priced.ensures.loads ∙ c.parts_of.ensures.loads;
    }
