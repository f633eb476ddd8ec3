use Rattle.std.proofs.Common.{refl, subst, ◌∙◌, ◌-◌}
use Rattle.bilv_spec.specs.Points.{HasMore}
use Rattle.call_spec.specs.Calls.{Budget}
use Rattle.start_value.specs.Starts.{layout_of}
use Rattle.verdict.specs.Measures.{IsUnrolledOf}
use Rattle.verdict.specs.Verdicts.{budget_of}
use Rattle.pair_verdict.specs.Sides.{AreTooMany, first_program, second_program}
use Rattle.pair_verdict.proofs.BothPoints.{error_is, few_points, few_together, first_too_many, none_left, second_unrolled, too_many}
use Rattle.pair_verdict.proofs.equality.unroll_both.Goals as goal

pub returns-in_err-first-clause-more : goal.returns-in_err-first-clause-more
returns-in_err-first-clause-more c =
    error_is c.from_residual.result c.in_err-first.field-0.0 (AreTooMany c.args.pair.now) c.from_residual.ensures.1
    (first_too_many c.args.pair.now c.args.pair.now.budget.now.in_range.points.0 c.in_err-first.field-0.0 c.in_err-first.ensures.more)

pub overflow_sub-points : goal.overflow_sub-points
overflow_sub-points c =
    let p = c.args.pair.now in
    few_points (first_program p) (second_program p) (layout_of p.first.now.layout) (layout_of p.second.now.layout) (budget_of p.budget.now) c.in_ok-first.first
    c.in_ok-first.ensures.unrolled c.len.result (c.len.ensures ∙ c.in_ok-first.first.points.ok.0)

pub returns-then-points-eq0-clause-more : goal.returns-then-points-eq0-clause-more
returns-then-points-eq0-clause-more c =
    let p = c.args.pair.now in (
      none_left (first_program p) (second_program p) (layout_of p.first.now.layout) (layout_of p.second.now.layout) (budget_of p.budget.now)
          c.in_ok-first.first c.in_ok-first.ensures.unrolled c.len.result (c.len.ensures ∙ c.in_ok-first.first.points.ok.0)
          (p.budget.now.points - c.len.result) refl c.if-points-eq0.true,
      refl,
    )

pub returns-in-Ok-clause-unrolled : goal.returns-in-Ok-clause-unrolled
returns-in-Ok-clause-unrolled c =
    let p = c.args.pair.now in
    let lies =
    subst (λ (b : Budget). IsUnrolledOf (second_program p) (layout_of p.second.now.layout) b c.in-Ok.second) c.with_points-left.ensures
    c.in-Ok.ensures.unrolled in
    record {
      first = c.in_ok-first.ensures.unrolled;
      second = second_unrolled (first_program p) (second_program p) (layout_of p.first.now.layout) (layout_of p.second.now.layout) (budget_of p.budget.now)
          c.in_ok-first.first c.in_ok-first.ensures.unrolled c.len.result (c.len.ensures ∙ c.in_ok-first.first.points.ok.0)
          (p.budget.now.points - c.len.result) refl c.in-Ok.second lies;
      few = few_together (first_program p) (second_program p) (layout_of p.first.now.layout) (layout_of p.second.now.layout) (budget_of p.budget.now)
          c.in_ok-first.first c.in_ok-first.ensures.unrolled c.len.result (c.len.ensures ∙ c.in_ok-first.first.points.ok.0)
          (p.budget.now.points - c.len.result) refl c.in-Ok.second lies;
    }

pub returns-in-Err-TooMany-clause-more : goal.returns-in-Err-TooMany-clause-more
returns-in-Err-TooMany-clause-more c =
    let p = c.args.pair.now in
    let more = rw c.in-Err-TooMany.field-0-is at c.in-Err-TooMany.ensures.more in
    let beyond = subst (λ (b : Budget). HasMore (second_program p) b.unroll b.points) c.with_points-left.ensures more.0 in (
      too_many (first_program p) (second_program p) (layout_of p.first.now.layout) (layout_of p.second.now.layout) (budget_of p.budget.now)
          c.in_ok-first.first c.in_ok-first.ensures.unrolled c.len.result (c.len.ensures ∙ c.in_ok-first.first.points.ok.0)
          (p.budget.now.points - c.len.result) refl beyond,
      refl,
    )
