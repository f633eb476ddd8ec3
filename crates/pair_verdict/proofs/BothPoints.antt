-- Both functions unrolled: how many points they have together, and what their price says.
use Rattle.std.proofs.Common.{◌≡◌, ℕ, ◌+◌, ◌-◌, ◌<◌, ◌≤◌, ◌^◌, sym, subst, ◌∙◌, arith, Result, Ok, Err}
use Rattle.std.specs.Prelude.{length, map, IfErr, IsErrAnd}
use Rattle.std.proofs.lemmas.List.{length-map}
use Rattle.bilv_spec.specs.Points.{HasMore}
use Rattle.bilv_spec.specs.Run.{Program}
use Rattle.call_spec.specs.Calls.{Budget}
use Rattle.machine_spec.specs.StateText.{Layout}
use Rattle.links_lang.specs.Views.{links_of}
use Rattle.pair_price.specs.Priced.{PricesPair}
use Rattle.pair_spec.specs.Equals.{AreWithin}
use Rattle.pair_spec.specs.Pairs.{HaveMore, IsPairPrice}
use Rattle.program_points.specs.Listed.{IsTooMany}
use Rattle.program_points.specs.declared.values.PointsFault.{PointsFault}
use Rattle.program_points.specs.declared.values.PointsFault.TheVariants.{TooMany, Memory}
use Rattle.question_form.specs.Views.{unrolled_of}
use Rattle.question_form.specs.declared.unrolled.Unrolled.{Unrolled}
use Rattle.verdict.specs.Measures.{IsUnrolledOf}
use Rattle.verdict.specs.Verdicts.{budget_of}
use Rattle.verdict.proofs.Grounding.{count_points}
use Rattle.pair_verdict.specs.Sides.{AreTooMany, AreUnrolled, IsVerdictOf, first_program, second_program}
use Rattle.pair_verdict.specs.declared.pairs.Both.{Both}
use Rattle.pair_verdict.specs.declared.pairs.Pair.{Pair}
use Rattle.pair_verdict.specs.declared.verdicts.PairVerdict.TheVariants.{Exceeded}
use Rattle.verdict.specs.declared.verdicts.Exceeded.TheVariants.{Size}
use Rattle.pair_verdict.proofs.PairPoints.{both_more, first_more, has_one, not_both_more}

-- the budget with other points
abbrev pub with_points : Budget → ℕ → Budget
with_points b n = record b { points = n }

module _ (a b : Program) (form other : Layout) (budget : Budget) (first : Unrolled) (is : IsUnrolledOf a form budget first) (n : ℕ)
    (count : n ≡ length first.points.items) where
  counted : length (unrolled_of first).points ≡ n
  counted = count_points first first.points.items ∙ sym count

  pub few_points : n ≤ budget.points
  few_points = let few = is.few in let same = counted in omega (arith, few, same)

  points_counted : length (map (λ q. q.point) (unrolled_of first).points) ≡ n
  points_counted = length-map (unrolled_of first).points (λ q. q.point) ∙ counted

  some_points : 0 < n
  some_points = let some = is.measurable.walkable.some in let same = counted in omega (arith, some, same)

  module _ (left : ℕ) (left_is : left ≡ budget.points - n) where
    pub too_many : HasMore b budget.unroll left → HaveMore a b budget.unroll budget.points
    too_many more =
        let few = few_points in
        let some = some_points in
        let same = points_counted in
        both_more a b budget.unroll budget.points (map (λ q. q.point) (unrolled_of first).points) is.ground.unrolling.points left (omega (arith, some, same))
        (omega (arith, same, left_is, few)) more

    pub none_left : left ≡ 0 → HaveMore a b budget.unroll budget.points
    none_left e = too_many (subst (HasMore b budget.unroll) (sym e) (has_one b budget.unroll))

    module _ (second : Unrolled) (lies : IsUnrolledOf b other (with_points budget left) second) where
      pub second_unrolled : IsUnrolledOf b other budget second
      second_unrolled = record {
        measurable = lies.measurable;
        ground = lies.ground;
        few = let few = lies.few in omega (arith, few, left_is);
      }

      pub few_together : length (unrolled_of first).points + length (unrolled_of second).points ≤ budget.points
      few_together = let few = lies.few in let first_few = few_points in let same = counted in omega (arith, few, left_is, first_few, same)

-- what both unrolled programs say of points and of the price
module _ (p : Pair) (v : Both) (h : AreUnrolled p v) where
  pub not_more : HaveMore (first_program p) (second_program p) p.budget.now.unroll p.budget.now.points → ⊥
  not_more =
      let xs = (unrolled_of v.first).points in
      let ys = (unrolled_of v.second).points in
      let few = h.few in
      let one = length-map xs (λ q. q.point) in
      let two = length-map ys (λ q. q.point) in
      not_both_more (first_program p) (second_program p) p.budget.now.unroll p.budget.now.points (map (λ q. q.point) xs)
      h.first.ground.unrolling.points (map (λ q. q.point) ys) h.second.ground.unrolling.points (omega (arith, few, one, two))

  module _ (price : ℕ) (is : PricesPair v.first v.second (links_of p.links.now) price) (small : price < 2 ^ 128) (other : price ≡ 2 ^ 128 - 1 → ⊥) where
    is_price : IsPairPrice (first_program p) (second_program p) p.budget.now.unroll (links_of p.links.now) price
    is_price =
        is (omega (arith, small, other)) (first_program p) (second_program p) p.budget.now.unroll h.first.ground.unrolling h.second.ground.unrolling

    pub is_size : p.budget.now.size < price → IsVerdictOf p (Exceeded (Size price))
    is_size above = (not_more, is_price, above)

    pub are_within : price ≤ p.budget.now.size →
        AreWithin (first_program p) (second_program p) (links_of p.links.now) (budget_of p.budget.now)
    are_within cheap = record { points = not_more; price = price; is_price = is_price; size = cheap }

-- an error that is handed on
pub error_is : {A E : Type 0} (r : Result A E) (e : E) (P : E → Type 0) → IsErrAnd r (λ x. x ≡ e) → P e → IfErr r P
error_is (Ok x) e P h is = tt
error_is (Err x) e P h is = subst P (sym h) is

-- too many points of the first are too many of both
pub first_too_many : (p : Pair) → 1 ≤ p.budget.now.points → (f : PointsFault) → IsTooMany (first_program p) p.budget.now.unroll p.budget.now.points f →
    AreTooMany p f
first_too_many p some (TooMany c) h = (first_more (first_program p) (second_program p) p.budget.now.unroll p.budget.now.points some h.0, h.1)
first_too_many p some Memory h = tt
