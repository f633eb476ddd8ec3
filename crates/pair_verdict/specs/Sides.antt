-- Two functions that are compared, with their links and budgets, and what each of them comes to alone.
use Rattle.std.specs.Prelude.{ℕ, ◌≡◌, ◌≤◌, ◌+◌, Bool, List, length}
use Rattle.word_spec.specs.State.{State}
use Rattle.bilv_spec.specs.Run.{Program}
use Rattle.bilv_spec.specs.Answers.{IsRightReport}
use Rattle.bilv_spec.specs.Verdict as verdicts
use Rattle.bilv_spec.specs.Verdict.{IsRight}
use Rattle.call_spec.specs.Calls as calls
use Rattle.machine_spec.specs.Endings as endings
use Rattle.links_lang.specs.Views.{AreLinksOf, links_of}
use Rattle.pair_sides.specs.Sides.{IsSided, program_of_side, side_of}
use Rattle.pair_sides.specs.declared.sides.Sided.{Sided}
use Rattle.pair_spec.specs.Equals.{HoldsBy, IsOther, IsRightPair}
use Rattle.pair_spec.specs.Links as spec
use Rattle.pair_spec.specs.Pairs.{HaveMore, ExitsIn}
use Rattle.program_points.specs.declared.values.PointsFault.{PointsFault}
use Rattle.program_points.specs.declared.values.PointsFault.TheVariants.{TooMany, Memory}
use Rattle.question_form.specs.Views.{unrolled_of}
use Rattle.start_value.specs.Starts.{layout_of}
use Rattle.verdict.specs.Measures.{IsUnrolledOf}
use Rattle.verdict.specs.Verdicts as sides
use Rattle.verdict.specs.Verdicts.{budget_of}
use Rattle.pair_verdict.specs.ExitLines.{all_lined_words}
use Rattle.pair_verdict.specs.Verdicts.{evidence_of, holding_of, report_of}
use Rattle.pair_verdict.specs.declared.pairs.Pair.{Pair}
use Rattle.pair_verdict.specs.declared.pairs.Both.{Both}
use Rattle.pair_verdict.specs.declared.exits.Reached.{Reached}
use Rattle.pair_verdict.specs.declared.sides.SideVerdict.{SideVerdict}
use Rattle.pair_verdict.specs.declared.sides.SideVerdict.TheVariants.{Holds, Other}
use Rattle.pair_verdict.specs.declared.verdicts.PairVerdict.{PairVerdict}

-- what is had of two functions that are compared
pub record IsPair (p : Pair) : Type 0 where
  pub first : IsSided p.first.now
  pub second : IsSided p.second.now
  pub links : AreLinksOf p.first.now.layout p.second.now.layout p.links.now

-- their programs
abbrev pub first_program : Pair → Program
first_program p = program_of_side p.first.now

abbrev pub second_program : Pair → Program
second_program p = program_of_side p.second.now

-- the verdict is right, and what it has shows it
abbrev pub IsVerdictOf : Pair → PairVerdict → Type 0
IsVerdictOf p v =
    IsRightPair (side_of p.first.now) (side_of p.second.now) (links_of p.links.now) (budget_of p.budget.now) (report_of v) (evidence_of v)

-- both are unrolled, with no more points together than the budget
pub record AreUnrolled (p : Pair) (v : Both) : Type 0 where
  pub first : IsUnrolledOf (first_program p) (layout_of p.first.now.layout) (budget_of p.budget.now) v.first
  pub second : IsUnrolledOf (second_program p) (layout_of p.second.now.layout) (budget_of p.budget.now) v.second
  pub few : length (unrolled_of v.first).points + length (unrolled_of v.second).points ≤ p.budget.now.points

-- there are more points than the budget
abbrev pub AreTooMany : Pair → PointsFault → Type 0
AreTooMany p (TooMany c) = HaveMore (first_program p) (second_program p) p.budget.now.unroll p.budget.now.points × (c ≡ p.budget.now.points + 1)
AreTooMany p Memory = Unit {0}

-- a function holds, also within a bound on backward transfers that is no greater than the budget's
pub record HoldsWithin (p : Program) (b : calls.Budget) (turns : ℕ) : Type 0 where
  pub few : turns ≤ b.unroll
  pub holds : IsRight p turns verdicts.Holds

-- a function holds, or there is another verdict that is neither of points nor of the price
abbrev pub IsSideVerdict : Sided → calls.Budget → SideVerdict → Type 0
IsSideVerdict s b (Holds h turns) = HoldsBy (side_of s) b (holding_of h) × HoldsWithin (program_of_side s) b turns
IsSideVerdict s b (Other v) =
    IsOther (sides.report_of v) × IsRightReport (program_of_side s) (layout_of s.layout) b (sides.report_of v) (sides.evidence_of v)

-- the run from a start exits by a step, in a state that has these words
pub record IsReached (p : Program) (k : ℕ) (start : endings.Start) (second : Bool) (links : List spec.Link) (r : Reached) : Type 0 where
  pub at : ℕ
  pub state : State
  pub exits : ExitsIn p k start at r.step state
  pub words : r.words.items ≡ all_lined_words second state links
