-- Prices, and refutations of questions about two functions, within one bound on backward transfers and within a greater one.
use Rattle.std.specs.Prelude.{ℕ, ◌≤◌, ◌+◌, List}
use Rattle.clause_spec.specs.Refutation.{Proof}
use Rattle.bilv_spec.specs.Run.{Program}
use Rattle.call_spec.specs.Calls.{Budget, PairQuestion}
use Rattle.pair_spec.specs.Equals.{AreWithin}
use Rattle.pair_spec.specs.Links.{Link}
use Rattle.pair_spec.specs.PairEvidence.{RefutesPair}
use Rattle.pair_spec.specs.Pairs.{IsPairPrice, IsSatisfiablePair}
use Rattle.term_spec.specs.ClauseForm.{first_byte}
use Rattle.turn_laws.specs.Raised.{over_variables}
use Rattle.walk_laws.specs.Layers.{IsFitting}
use Rattle.walk_spec.specs.Unrolled.{UnrolledProgram}
use Rattle.walk_spec.specs.Unrolling.{IsUnrolling}
use Rattle.pair_turns.specs.PairBounds.{NoneExceeds}

-- the price of both rises with the bound
abbrev pub PairPricesRise : Type 0
PairPricesRise = (a b : Program) (k m : ℕ) → k ≤ m → (links : List Link) (low high : ℕ) → IsPairPrice a b k links low → IsPairPrice a b m links high → low ≤ high

-- so two functions within the budgets are within those with a smaller bound
abbrev pub WithinFalls : Type 0
WithinFalls = (a b : Program) (links : List Link) (budget : Budget) (k : ℕ) → k ≤ budget.unroll → AreWithin a b links budget →
    AreWithin a b links (record budget { unroll = k })

-- a question that is refuted is true of no readings
abbrev pub RefutedPairs : Type 0
RefutedPairs = (a b : Program) (k : ℕ) (links : List Link) (question : PairQuestion) (proof : Proof) → RefutesPair a b k links question proof →
    ¬ IsSatisfiablePair a b k links question

-- the unrolled program is that of a program, with numbers that fit its words
pub record IsFitted (p : Program) (k : ℕ) (u : UnrolledProgram) : Type 0 where
  pub unrolling : IsUnrolling p k u
  pub fitting : IsFitting u

-- A refutation of a question about both, within a bound that no run of either exceeds, is one within a greater bound, over at least as many variables as the
-- programs that are unrolled for the greater bound have bits of registers, flags and choices: no readings make the question true, so those decide it without a
-- byte of memory.
abbrev pub RefutedPairsRise : Type 0
RefutedPairsRise = (a b : Program) (k m : ℕ) → k ≤ m → NoneExceeds a k → NoneExceeds b k → (links : List Link) (question : PairQuestion) (proof : Proof) →
    RefutesPair a b k links question proof → (price : ℕ) → IsPairPrice a b m links price → (u w : UnrolledProgram) → IsFitted a m u → IsFitted b m w →
    RefutesPair a b m links question (over_variables (first_byte u + first_byte w) proof)
