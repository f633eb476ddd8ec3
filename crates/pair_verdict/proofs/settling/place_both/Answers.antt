use Rattle.std.proofs.Common.{true, false}
use Rattle.links_lang.specs.Views.{links_of}
use Rattle.verdict.specs.Verdicts.{budget_of}
use Rattle.pair_verdict.specs.Sides.{first_program, second_program}
use Rattle.pair_verdict.proofs.PairPoints.{first_more, second_more}
use Rattle.pair_verdict.proofs.PlacedSides.{is_placed}
use Rattle.pair_verdict.proofs.settling.place_both.Goals as goal

pub unroll_asked-requires-clause-few : goal.unroll_asked-requires-clause-few
unroll_asked-requires-clause-few c more =
    let p = c.args.pair.now in
    c.requires.within.points (first_more (first_program p) (second_program p) p.budget.now.unroll p.budget.now.points p.budget.now.in_range.points.0 more)

pub unroll_asked-requires-2-clause-few : goal.unroll_asked-requires-2-clause-few
unroll_asked-requires-2-clause-few c more =
    let p = c.args.pair.now in
    c.requires.within.points (second_more (first_program p) (second_program p) p.budget.now.unroll p.budget.now.points p.budget.now.in_range.points.0 more)

pub returns : goal.returns
returns c =
    let p = c.args.pair.now in
    record {
      first = is_placed p.first.now false (links_of p.links.now) (budget_of p.budget.now) p.budget.now.in_range.points.1 c.in_ok-one.one c.in_ok-first.first
          c.in_ok-one.ensures.unrolled c.in_ok-one.ensures.form c.in_ok-first.ensures.program c.in_ok-first.ensures.formed c.in_ok-first.ensures.form
          c.in_ok-first.ensures.known (c.in_ok-first.ensures.headless c.in_ok-one.ensures.unrolled.measurable.headless)
          (c.in_ok-first.ensures.roots c.in_ok-one.ensures.unrolled.measurable.headless c.in_ok-one.ensures.unrolled.measurable.roots);
      second = is_placed p.second.now true (links_of p.links.now) (budget_of p.budget.now) p.budget.now.in_range.points.1 c.in_ok-two.two
          c.in_ok-second.second c.in_ok-two.ensures.unrolled c.in_ok-two.ensures.form c.in_ok-second.ensures.program c.in_ok-second.ensures.formed
          c.in_ok-second.ensures.form c.in_ok-second.ensures.known (c.in_ok-second.ensures.headless c.in_ok-two.ensures.unrolled.measurable.headless)
          (c.in_ok-second.ensures.roots c.in_ok-two.ensures.unrolled.measurable.headless c.in_ok-two.ensures.unrolled.measurable.roots);
    }
