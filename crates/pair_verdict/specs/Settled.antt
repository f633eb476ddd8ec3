-- What the questions about two functions that hold come to.
use Rattle.std.specs.Prelude.{ℕ, ◌≡◌, ◌≤◌, ◌<◌, ◌^◌, Bool, false, true, List, length}
use Rattle.word_spec.specs.State.{State}
use Rattle.bilv_spec.specs.Answers.{start_in}
use Rattle.call_spec.specs.Calls.{PairOfStates, DifferenceOfExits}
use Rattle.cnf_form.specs.Views.{proof_of}
use Rattle.links_lang.specs.Views.{links_of}
use Rattle.pair_form.specs.Views.{pair_question_of}
use Rattle.pair_sides.specs.Sides.{side_of}
use Rattle.pair_sides.specs.Sides.{program_of_side}
use Rattle.pair_sides.specs.declared.sides.Sided.{Sided}
use Rattle.pair_spec.specs.Equals.{AreWritten}
use Rattle.pair_spec.specs.Links.{Link, asking}
use Rattle.question_form.specs.Views.{unrolled_of}
use Rattle.question_form.specs.declared.unrolled.Unrolled.{Unrolled}
use Rattle.verdict.specs.Grounds.{IsGround}
use Rattle.walk_spec.specs.Unrolled.{UnrolledProgram}
use Rattle.verdict.specs.Measures.{IsMeasurable}
use Rattle.pair_terms.specs.Sides.{IsPlacedAs}
use Rattle.pair_verdict.specs.PairRounds.{AreReady}
use Rattle.pair_verdict.specs.declared.deciding.Exits.{Exits}
use Rattle.pair_verdict.specs.declared.pairs.Both.{Both}
use Rattle.pair_spec.specs.Pairs.{AreEqual, ArePairedStarts, ExitApart, IsLinkedPair}
use Rattle.pair_spec.specs.PairEvidence.{IsPairDue, RefutesPair, SpendsPair}
use Rattle.start_value.specs.Starts.{layout_of, written_of}
use Rattle.machine_spec.specs.Endings as endings
use Rattle.start_value.specs.declared.start.Start.{Start}
use Rattle.pair_verdict.specs.Sides.{first_program, second_program}
use Rattle.pair_verdict.specs.declared.pairs.Pair.{Pair}
use Rattle.pair_verdict.specs.declared.settling.Settled.{Settled}
use Rattle.pair_verdict.specs.declared.settling.Settled.TheVariants.{NoPair, Differs, Alike, Conflicts}

-- the starts of both
abbrev pub first_start : Pair → Start → endings.Start
first_start p s = start_in (first_program p) (layout_of p.first.now.layout) (written_of s)

abbrev pub second_start : Pair → Start → endings.Start
second_start p s = start_in (second_program p) (layout_of p.second.now.layout) (written_of s)

-- an unrolled program with its exit as a place is that of a side, in which the flags that links compare are asked for at the exit
pub record IsPlaced (s : Sided) (second : Bool) (links : List Link) (k : ℕ) (v : Unrolled) : Type 0 where
  pub asked : UnrolledProgram
  pub placed : IsPlacedAs asked (unrolled_of v)
  pub ground : IsGround (asking second links (program_of_side s)) k (layout_of s.layout) asked
  pub measurable : IsMeasurable v
  pub form : layout_of v.form ≡ layout_of s.layout
  pub more : 1 < length v.points.items
  pub few : length v.points.items ≤ 2 ^ 28

pub record ArePlaced (p : Pair) (v : Both) : Type 0 where
  pub first : IsPlaced p.first.now false (links_of p.links.now) p.budget.now.unroll v.first
  pub second : IsPlaced p.second.now true (links_of p.links.now) p.budget.now.unroll v.second

-- the terms at the exits are those of both sides
pub record AreExits (p : Pair) (e : Exits) : Type 0 where
  pub ready : AreReady p.links.now e
  pub first : IsPlaced p.first.now false (links_of p.links.now) p.budget.now.unroll e.first.passive.unrolled.now
  pub second : IsPlaced p.second.now true (links_of p.links.now) p.budget.now.unroll e.second.passive.unrolled.now

-- what the questions come to, where both functions hold
abbrev pub IsSettled : Pair → Settled → Type 0
IsSettled p (NoPair proof) =
    ((s t : State) → ¬ IsLinkedPair (first_program p) (second_program p) (links_of p.links.now) s t)
    × RefutesPair (first_program p) (second_program p) p.budget.now.unroll (links_of p.links.now) PairOfStates (proof_of proof)
IsSettled p (Differs n i j x y) =
    AreWritten (side_of p.first.now) (side_of p.second.now) (written_of x) (written_of y)
    × ArePairedStarts (first_program p) (second_program p) (links_of p.links.now) (first_start p x) (second_start p y)
    × ExitApart (first_program p) (second_program p) p.budget.now.unroll (links_of p.links.now) (first_start p x) (second_start p y) n i j
IsSettled p (Alike x y proof) =
    AreEqual (first_program p) (second_program p) p.budget.now.unroll (links_of p.links.now)
    × AreWritten (side_of p.first.now) (side_of p.second.now) (written_of x) (written_of y)
    × IsLinkedPair (first_program p) (second_program p) (links_of p.links.now) (first_start p x).state (second_start p y).state
    × RefutesPair (first_program p) (second_program p) p.budget.now.unroll (links_of p.links.now) DifferenceOfExits (proof_of proof)
IsSettled p (Conflicts question proof) =
    IsPairDue (first_program p) (second_program p) (links_of p.links.now) (pair_question_of question)
    × SpendsPair (first_program p) (second_program p) p.budget.now.unroll (links_of p.links.now) (pair_question_of question) p.budget.now.conflicts
    (proof_of proof)
