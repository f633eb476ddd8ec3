use Rattle.std.proofs.Common.{◌≡◌, ◌+◌, ◌∙◌, refl, sym, ap, subst, arith}
use Rattle.term_spec.specs.ClauseForm.{first_byte}
use Rattle.bilv_spec.specs.Verdict as verdicts
use Rattle.bilv_spec.specs.Verdict.{IsRight}
use Rattle.call_spec.specs.Calls.{Budget}
use Rattle.links_lang.specs.Views.{links_of}
use Rattle.pair_spec.specs.Equals.{AreWithin}
use Rattle.pair_turns.specs.PairBounds.{NoneExceeds}
use Rattle.pair_turns.proofs.PairPrices.{within_falls}
use Rattle.pair_turns.proofs.PairsRaising.{both_paid}
use Rattle.question_form.specs.Views.{unrolled_of}
use Rattle.start_value.specs.Starts.{layout_of}
use Rattle.verdict.specs.Verdicts.{budget_of}
use Rattle.verdict.proofs.EarlyVerdicts.{few_points}
use Rattle.pair_verdict.specs.Sides.{first_program, second_program}
use Rattle.pair_verdict.specs.declared.pairs.Pair.{Pair}
use Rattle.pair_verdict.proofs.LawfulSides.{side_reads, side_rows}
use Rattle.pair_verdict.proofs.FewerTurns.{fitted, none_exceeds}
use Rattle.pair_verdict.proofs.smaller.settle_smaller.Goals as goal

pub settle-requires-clause-within : goal.settle-requires-clause-within
settle-requires-clause-within c =
    let p = c.args.pair.now in
    subst (AreWithin (first_program p) (second_program p) (links_of p.links.now)) (sym c.with_unroll-budget.ensures)
    (within_falls (first_program p) (second_program p) (links_of p.links.now) (budget_of p.budget.now) c.args.turns c.requires.first.few c.requires.within)

pub settle-requires-clause-first_holds : goal.settle-requires-clause-first_holds
settle-requires-clause-first_holds c =
    subst (λ (b : Budget). IsRight (first_program c.args.pair.now) b.unroll verdicts.Holds) (sym c.with_unroll-budget.ensures) c.requires.first.holds

pub settle-requires-clause-second_holds : goal.settle-requires-clause-second_holds
settle-requires-clause-second_holds c =
    subst (λ (b : Budget). IsRight (second_program c.args.pair.now) b.unroll verdicts.Holds) (sym c.with_unroll-budget.ensures) c.requires.second.holds

pub returns : goal.returns
returns c =
    let p = c.args.pair.now in
    let is = c.requires.within in
    let same = ap (λ (b : Budget). b.unroll) c.with_unroll-budget.ensures in
    let few = c.requires.first.few in
    let small : Pair = record p { budget = record p.budget { now = c.with_unroll-budget.result } } in
    c.raised.ensures small p (record {
      same = refl;
      few = omega (arith, same, few);
      first_none = subst (λ (b : Budget). NoneExceeds (first_program p) b.unroll) (sym c.with_unroll-budget.ensures)
          (none_exceeds (first_program p) (side_rows p.first.now c.requires.pair.first) (side_reads p.first.now) c.args.turns c.requires.first.holds);
      second_none = subst (λ (b : Budget). NoneExceeds (second_program p) b.unroll) (sym c.with_unroll-budget.ensures)
          (none_exceeds (second_program p) (side_rows p.second.now c.requires.pair.second) (side_reads p.second.now) c.args.turns c.requires.second.holds);
      price = is.price;
      is_price = is.is_price;
      first = unrolled_of c.args.both.now.first;
      second = unrolled_of c.args.both.now.second;
      first_is = fitted (first_program p) (layout_of p.first.now.layout) (budget_of p.budget.now) c.args.both.now.first c.requires.unrolled.first;
      second_is = fitted (second_program p) (layout_of p.second.now.layout) (budget_of p.budget.now) c.args.both.now.second c.requires.unrolled.second;
      inputs_are = ap (λ n. n + c.free_inputs-second.result) c.free_inputs-first.ensures
          ∙ ap (λ n. first_byte (unrolled_of c.args.both.now.first) + n) c.free_inputs-second.ensures;
    }) c.in_ok-settled.ensures

pub free_inputs-first-requires : goal.free_inputs-first-requires
free_inputs-first-requires c =
    let p = c.args.pair.now in
    few_points (first_program p) (layout_of p.first.now.layout) p.budget.now c.args.both.now.first c.requires.unrolled.first p.budget.now.in_range.points.1

pub free_inputs-second-requires : goal.free_inputs-second-requires
free_inputs-second-requires c =
    let p = c.args.pair.now in
    few_points (second_program p) (layout_of p.second.now.layout) p.budget.now c.args.both.now.second c.requires.unrolled.second p.budget.now.in_range.points.1

pub overflow_add-inputs : goal.overflow_add-inputs
overflow_add-inputs c =
    let p = c.args.pair.now in
    let is = c.requires.within in
    let first = c.free_inputs-first.ensures in
    let second = c.free_inputs-second.ensures in
    let paid = both_paid (first_program p) (second_program p) p.budget.now.unroll (links_of p.links.now) is.price is.is_price
    (unrolled_of c.args.both.now.first) (unrolled_of c.args.both.now.second)
    (fitted (first_program p) (layout_of p.first.now.layout) (budget_of p.budget.now) c.args.both.now.first c.requires.unrolled.first)
    (fitted (second_program p) (layout_of p.second.now.layout) (budget_of p.budget.now) c.args.both.now.second c.requires.unrolled.second) in
    let cheap = is.size in
    let small = p.budget.now.in_range.size.1 in
    omega (arith, first, second, paid, cheap, small)
