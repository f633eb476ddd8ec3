use Rattle.std.proofs.Common.{◌≡◌, ◌∙◌, subst, ◌∷◌, [], ◌-◌, List, ℕ, take, drop}
use Rattle.std.specs.Prelude.{slice_range, map}
use Rattle.std.specs.List.{flat_map}
use Rattle.std.proofs.lemmas.List.{get_or_default}
use Rattle.notes_value.specs.declared.notes.Assert.{Assert}
use Rattle.notes_value.specs.NoteViews.{assert_of}
use Rattle.walk_spec.specs.Prices.{line_of}
use Rattle.question_form.specs.declared.unrolled.Code.{Code}
use Rattle.question_form.specs.declared.unrolled.Edge.{Edge}
use Rattle.question_form.specs.Views.{assert_exit, code_of, no_code, point_by, unrolled_of}
use Rattle.unroller.specs.LineCosts.{AreLineCosts}
use Rattle.unroller.specs.Points.{AreOfCode}
use Rattle.unroller.specs.Totals.{AreTotals}
use Rattle.unroller.proofs.prices.point_totals.Goals as goal
use Rattle.unroller.proofs.Priced.{code_totals_are}

pub returns : goal.returns
returns c =
    let u = c.args.u.now in
    let code = c.index-code.result.now in
    let edges = slice_range u.edges.items c.args.point.edges c.args.end in
    let is : code ≡ code_of u c.args.point = c.index-code.ensures ∙ get_or_default u.codes.items c.args.point.code code no_code c.requires.code in
    let of_code : AreOfCode code edges c.asserts_cost-asserted.result c.args.ensured c.code_totals.result =
    subst (λ (z : List Edge). AreOfCode code (take (c.args.end - c.args.point.edges)
    (drop c.args.point.edges z)) c.asserts_cost-asserted.result c.args.ensured c.code_totals.result)
    c.deref-3.ensures.value c.code_totals.ensures in
    let asserted =
    subst (λ (z : List (ℕ × ℕ)). AreLineCosts c.asserts_cost-asserted.result
    (flat_map line_of (map (assert_exit (map assert_of u.notes.now.asserts.items))
    (take (code.asserts.1 - code.asserts.0) (drop code.asserts.0 z))))) c.deref-2.ensures.value
    (subst (λ (z : List Assert). AreLineCosts c.asserts_cost-asserted.result
    (flat_map line_of (map (assert_exit (map assert_of z)) (take (code.asserts.1 - code.asserts.0)
    (drop code.asserts.0 c.deref-2.result.now))))) c.deref.ensures.value
    c.asserts_cost-asserted.ensures) in
    subst (λ (z : Code). AreTotals (unrolled_of u) (point_by u c.args.point z edges ∷ []) c.code_totals.result) is
    (code_totals_are u c.args.point code edges c.asserts_cost-asserted.result c.args.ensured c.code_totals.result of_code asserted c.requires.ensured)
