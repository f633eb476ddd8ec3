-- The answers to the questions about two functions that hold are what the questions come to.
use Rattle.std.proofs.Common.{◌≡◌, refl, sym, ap, ◌∙◌, ℕ, List, Option, Some, None, false, true}
use Rattle.bilv_spec.specs.Verdict as verdicts
use Rattle.bilv_spec.specs.Verdict.{IsRight}
use Rattle.call_spec.specs.Calls.{PairQuestion, PairOfStates, DifferenceOfExits}
use Rattle.cnf_form.specs.Views.{proof_of}
use Rattle.cnf_form.specs.declared.form.Proof.{Proof}
use Rattle.links_lang.specs.Views.{links_of}
use Rattle.pair_form.specs.declared.kinds.PairKind.TheVariants as kind
use Rattle.pair_sides.specs.Sides.{side_of}
use Rattle.pair_spec.specs.Equals.{AreWritten}
use Rattle.pair_spec.specs.Pairs.{ArePairedStarts, IsLinkedPair}
use Rattle.pair_terms.specs.Sides.{program_of_exit}
use Rattle.start_value.specs.Starts.{layout_of, written_of}
use Rattle.start_value.specs.declared.start.Start.{Start}
use Rattle.pair_verdict.specs.ExitLines.{first_apart}
use Rattle.pair_verdict.specs.PairRounds.{IsPairAnswered, PairAnswers}
use Rattle.pair_verdict.specs.Settled.{AreExits, IsSettled, first_start, second_start}
use Rattle.pair_verdict.specs.Sides.{IsPair, IsReached, first_program, second_program}
use Rattle.pair_verdict.specs.declared.deciding.Exits.{Exits}
use Rattle.pair_verdict.specs.declared.exits.Reached.{Reached}
use Rattle.pair_verdict.specs.declared.pairs.Pair.{Pair}
use Rattle.pair_verdict.specs.declared.settling.Settled.TheVariants.{NoPair, Differs, Alike, Conflicts}
use Rattle.pair_verdict.specs.declared.verdicts.PairAnswered.{PairAnswered}
use Rattle.pair_verdict.specs.declared.verdicts.PairAnswered.TheVariants.{Sat, Refuted, Spent}
use Rattle.pair_verdict.proofs.Differing.{are_equal, exit_apart, linked_starts, never_alike, none_linked, paired_starts}
use Rattle.pair_verdict.proofs.LawfulSides.{side_reads, side_rows}

-- what a question about both comes to
abbrev pub IsAnswer : Pair → PairQuestion → PairAnswered → Type 0
IsAnswer p question a =
    IsPairAnswered (first_program p) (second_program p) p.budget.now.unroll (layout_of p.first.now.layout) (layout_of p.second.now.layout)
    (links_of p.links.now) question p.budget.now.conflicts a

-- the answer by the terms at the exits is one about both
pub answered_by : (p : Pair) (e : Exits) → AreExits p e → (question : PairQuestion) (a : PairAnswered) →
    PairAnswers (links_of p.links.now) (program_of_exit e.first) (program_of_exit e.second) question p.budget.now.conflicts a → IsAnswer p question a
answered_by p e h question a g =
    g h.first.asked h.second.asked h.first.placed h.second.placed (first_program p) (second_program p) p.budget.now.unroll (layout_of p.first.now.layout)
    (layout_of p.second.now.layout) h.first.ground h.second.ground

module _ (p : Pair) (h : IsPair p) where
  module _ (question : PairQuestion) (x y : Start) (is : IsAnswer p question (Sat x y)) where
    pub both_written : AreWritten (side_of p.first.now) (side_of p.second.now) (written_of x) (written_of y)
    both_written = record { first = is.0; second = is.1 }

    pub both_start : ArePairedStarts (first_program p) (second_program p) (links_of p.links.now) (first_start p x) (second_start p y)
    both_start =
        paired_starts (first_program p) (second_program p) (side_rows p.first.now h.first) (side_rows p.second.now h.second) (side_reads p.first.now)
        (side_reads p.second.now) p.budget.now.unroll (links_of p.links.now) (layout_of p.first.now.layout) (layout_of p.second.now.layout) question
        p.budget.now.conflicts x y is

    pub both_linked : IsLinkedPair (first_program p) (second_program p) (links_of p.links.now) (first_start p x).state (second_start p y).state
    both_linked =
        linked_starts (first_program p) (second_program p) (side_rows p.first.now h.first) (side_rows p.second.now h.second) (side_reads p.first.now)
        (side_reads p.second.now) p.budget.now.unroll (links_of p.links.now) (layout_of p.first.now.layout) (layout_of p.second.now.layout) question
        p.budget.now.conflicts x y is

  -- no pair is linked, or the conflicts did not suffice for the first question
  pub settled_none : (proof : Proof) → IsAnswer p PairOfStates (Refuted proof) → IsSettled p (NoPair proof)
  settled_none proof r = (
    none_linked (first_program p) (second_program p) (side_rows p.first.now h.first) (side_rows p.second.now h.second) (side_reads p.first.now)
        (side_reads p.second.now) p.budget.now.unroll (links_of p.links.now) (proof_of proof) r,
    r,
  )

  pub spent_on_pair : (proof : Proof) → IsAnswer p PairOfStates (Spent proof) → IsSettled p (Conflicts kind.Pair proof)
  spent_on_pair proof s = (tt, s)

  -- some are linked
  module _ (x y : Start) (is : IsAnswer p PairOfStates (Sat x y)) where
    pub spent_on_difference : (proof : Proof) → IsAnswer p DifferenceOfExits (Spent proof) → IsSettled p (Conflicts kind.Difference proof)
    spent_on_difference proof s = (((first_start p x).state, (second_start p y).state, both_linked PairOfStates x y is), s)

    pub settled_alike : IsRight (first_program p) p.budget.now.unroll verdicts.Holds → IsRight (second_program p) p.budget.now.unroll verdicts.Holds →
        (proof : Proof) → IsAnswer p DifferenceOfExits (Refuted proof) → IsSettled p (Alike x y proof)
    settled_alike holds other proof r = (
      are_equal (first_program p) (second_program p) (side_rows p.first.now h.first) (side_rows p.second.now h.second) (side_reads p.first.now)
          (side_reads p.second.now) p.budget.now.unroll (links_of p.links.now) holds other (first_start p x).state (second_start p y).state
          (both_linked PairOfStates x y is) (proof_of proof) r,
      both_written PairOfStates x y is,
      both_linked PairOfStates x y is,
      r,
    )

  -- the exits of some differ
  module _ (x y : Start) (is : IsAnswer p DifferenceOfExits (Sat x y)) (r s : Reached)
      (one : IsReached (first_program p) p.budget.now.unroll (first_start p x) false (links_of p.links.now) r)
      (two : IsReached (second_program p) p.budget.now.unroll (second_start p y) true (links_of p.links.now) s) (xs ys : List (ℕ × ℕ))
      (xs_are : xs ≡ r.words.items) (ys_are : ys ≡ s.words.items) (o : Option ℕ) (found : o ≡ first_apart xs ys) where
    found_by_words : first_apart r.words.items s.words.items ≡ o
    found_by_words = ap (λ z. first_apart z s.words.items) (sym xs_are) ∙ ap (first_apart xs) (sym ys_are) ∙ sym found

    pub never_none : o ≡ None → ⊥
    never_none none =
        never_alike (first_program p) (second_program p) (side_rows p.first.now h.first) (side_rows p.second.now h.second) (side_reads p.first.now)
        (side_reads p.second.now) p.budget.now.unroll (links_of p.links.now) (layout_of p.first.now.layout) (layout_of p.second.now.layout) DifferenceOfExits
        p.budget.now.conflicts x y is refl r s one two (found_by_words ∙ none)

    pub settled_differs : (line : ℕ) → o ≡ Some line → IsSettled p (Differs line r.step s.step x y)
    settled_differs line some = (
      both_written DifferenceOfExits x y is,
      both_start DifferenceOfExits x y is,
      exit_apart (first_program p) (second_program p) (side_rows p.first.now h.first) (side_rows p.second.now h.second) (side_reads p.first.now)
          (side_reads p.second.now) p.budget.now.unroll (links_of p.links.now) (layout_of p.first.now.layout) (layout_of p.second.now.layout) DifferenceOfExits
          p.budget.now.conflicts x y is refl r s one two line (found_by_words ∙ some),
    )
