use Rattle.std.proofs.Common.{◌≡◌, sym, ◌∙◌, subst, ◌-◌, List}
use Rattle.std.specs.Prelude.{Contains}
use Rattle.std.proofs.lemmas.List.{get_or_default}
use Rattle.question_form.specs.declared.unrolled.Edge.{Edge}
use Rattle.question_form.specs.Forms.{AreBounds}
use Rattle.question_form.specs.declared.unrolled.Code.{Code}
use Rattle.question_form.specs.Views.{code_of, no_code}
use Rattle.frame_price.proofs.prices.point_totals.Goals as goal
use Rattle.frame_price.proofs.PointTotals.{in_range, totals_with}

pub edges_cost-at_heads-requires-clause-edges : goal.edges_cost-at_heads-requires-clause-edges
edges_cost-at_heads-requires-clause-edges c = λ e h.
    c.requires.roots.edges e (subst (λ (l : List Edge). Contains l e) c.deref.ensures.value
    (in_range c.deref.result.now c.exits_begin-first.result (c.args.end - c.exits_begin-first.result) e h))

pub first_cost-judged-requires-clause-bounds : goal.first_cost-judged-requires-clause-bounds
first_cost-judged-requires-clause-bounds c =
    subst (λ (z : Code). AreBounds c.args.u.now z.asserts) (sym c.index-code.ensures)
    (c.requires.formed.asserts c.args.point.code c.index-code.result.now c.requires.code)

pub returns : goal.returns
returns c =
    let u = c.args.u.now in
    let code = c.index-code.result.now in
    let is : code ≡ code_of u c.args.point = c.index-code.ensures ∙ get_or_default u.codes.items c.args.point.code code no_code c.requires.code in
    totals_with u c.args.point code c.exits_begin-first.result c.args.end c.deref.result.now c.first_cost-judged.result c.edges_cost-at_heads.result
    c.sum-most.result c.last_cost-last.result c.sum-lines.result c.args.at_exit c.exits_totals.result c.deref.ensures.value is c.exits_begin-first.ensures
    c.first_cost-judged.ensures c.edges_cost-at_heads.ensures c.sum-most.ensures c.last_cost-last.ensures c.sum-lines.ensures c.exits_totals.ensures
    c.requires.at_exit
