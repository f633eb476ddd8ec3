use Rattle.std.proofs.Common.{◌≡◌, arith, ap, sym, subst, ◌∙◌, ◌+◌, ◌-◌, ◌<◌, ◌≤◌, ℕ, List, length, take, drop}
use Rattle.std.specs.Prelude.{slice_range}
use Rattle.std.proofs.lemmas.List.{get_or_default}
use Rattle.question_form.specs.declared.unrolled.Edge.{Edge}
use Rattle.question_form.specs.declared.unrolled.Code.{Code}
use Rattle.question_form.specs.declared.unrolled.Point.{Point}
use Rattle.question_form.specs.Views.{code_of, no_code}
use Rattle.pair_price.specs.Priced.{leads_out}
use Rattle.pair_price.proofs.ExitCounts.{as_number, at_most_one, count_step}
use Rattle.pair_price.proofs.exits.exit_count.Goals as goal

pub points-preserved : goal.points-preserved
points-preserved c =
    let u = c.args.u.now in
    let q = c.index-point.result.now in
    let code = c.index-code.result.now in
    let exits = c.may_exit.result in
    let low : c.points.i ≤ length u.points.items = c.points.invariant.below in
    let some = c.points-test.true in
    let lt : c.points.i - 1 < length u.points.items = omega arith in
    let known : q.code < length u.codes.items =
    subst (λ (z : Point). z.code < length u.codes.items) (sym c.index-point.ensures) (c.requires.codes (c.points.i - 1) q lt) in
    let is : code ≡ code_of u q = c.index-code.ensures ∙ get_or_default u.codes.items q.code code no_code known in
    let out : exits ≡ leads_out (code_of u q).list (slice_range u.edges.items q.edges c.points.end) =
    subst (λ (z : Code). exits ≡ leads_out z.list (slice_range u.edges.items q.edges c.points.end)) is
    (subst (λ (z : List Edge). exits ≡ leads_out code.list (take (c.points.end - q.edges) (drop q.edges z))) c.deref.ensures.value c.may_exit.ensures) in
    let step =
    count_step u c.points.i c.points.end q exits c.points.count some low c.index-point.ensures c.points.invariant.end out c.points.invariant.count in
    let one = at_most_one exits in
    let few = c.points.invariant.few in
    record {
      below = omega arith;
      end = step.0;
      within = subst (λ (z : Point). z.edges ≤ length u.edges.items) (sym c.index-point.ensures) (c.requires.within (c.points.i - 1) q lt);
      count = ap (λ (z : ℕ). c.points.count + z) (as_number exits) ∙ step.1;
      few = omega (arith, one, few, some);
    }
