-- Two functions within a smaller bound on backward transfers than the budget's.
use Rattle.std.specs.Prelude.{ℕ, ◌≡◌, ◌≤◌, ◌+◌}
use Rattle.links_lang.specs.Views.{links_of}
use Rattle.pair_spec.specs.Pairs.{IsPairPrice}
use Rattle.pair_turns.specs.PairBounds.{NoneExceeds}
use Rattle.pair_turns.specs.PairsRaised.{IsFitted}
use Rattle.term_spec.specs.ClauseForm.{first_byte}
use Rattle.walk_spec.specs.Unrolled.{UnrolledProgram}
use Rattle.pair_verdict.specs.Sides.{first_program, second_program}
use Rattle.pair_verdict.specs.declared.pairs.Pair.{Pair}

-- The same two functions with a budget of fewer backward transfers, which no run of either exceeds. For the greater budget there are so many inputs besides bytes.
pub record IsSmaller (small great : Pair) (inputs : ℕ) : Type 0 where
  pub same : small ≡ record great { budget = small.budget }
  pub few : small.budget.now.unroll ≤ great.budget.now.unroll
  pub first_none : NoneExceeds (first_program great) small.budget.now.unroll
  pub second_none : NoneExceeds (second_program great) small.budget.now.unroll
  pub price : ℕ
  pub is_price : IsPairPrice (first_program great) (second_program great) great.budget.now.unroll (links_of great.links.now) price
  pub first : UnrolledProgram
  pub second : UnrolledProgram
  pub first_is : IsFitted (first_program great) great.budget.now.unroll first
  pub second_is : IsFitted (second_program great) great.budget.now.unroll second
  pub inputs_are : inputs ≡ first_byte first + first_byte second
