-- What the questions about two functions that hold come to.
use Rattle.std.proofs.Common.{◌≡◌, sym, ap, ◌∙◌, ℕ, false, true, List, None, Some}
use Rattle.word_spec.specs.State.{State}
use Rattle.bilv_spec.specs.Answers.{start_in}
use Rattle.bilv_spec.specs.Points.{is_known_at}
use Rattle.bilv_spec.specs.PointLaws.{HasLawfulRows, ReadsMemory}
use Rattle.bilv_spec.specs.Run.{Program}
use Rattle.bilv_spec.specs.Verdict as verdicts
use Rattle.bilv_spec.specs.Verdict.{IsRight}
use Rattle.call_spec.specs.Calls.{PairQuestion, PairOfStates, DifferenceOfExits}
use Rattle.clause_spec.specs.Refutation.{Proof}
use Rattle.machine_spec.specs.StateText.{Layout}
use Rattle.pair_spec.specs.Links.{Link, differing_line}
use Rattle.pair_spec.specs.Pairs.{AreEqual, ArePairedStarts, ExitApart, IsLinkedPair}
use Rattle.pair_spec.specs.PairEvidence.{RefutesPair}
use Rattle.pair_spec.proofs.OnePair.{not_different_is_equal}
use Rattle.start_value.specs.Starts.{written_of}
use Rattle.start_value.specs.declared.start.Start.{Start}
use Rattle.verdict.proofs.Judging.{written_choice}
use Rattle.pair_verdict.specs.ExitLines.{all_lined_words, first_apart}
use Rattle.pair_verdict.specs.PairRounds.{IsPairAnswered}
use Rattle.pair_verdict.specs.Sides.{IsReached}
use Rattle.pair_verdict.specs.declared.exits.Reached.{Reached}
use Rattle.pair_verdict.specs.declared.verdicts.PairAnswered.TheVariants.{Sat}
use Rattle.pair_verdict.proofs.LinesApart.{apart_is_differing}
use Rattle.pair_verdict.proofs.Paired.{are_linked, are_paired, different_is_satisfiable, exits_differ, linked_is_satisfiable}
use Rattle.pair_turns.proofs.Refuted.{refuted_pair}

module _ (a b : Program) (lawful : HasLawfulRows a) (rows : HasLawfulRows b) (memory : ReadsMemory a) (reads : ReadsMemory b) (k : ℕ) (links : List Link) where
  -- no linked pair, where the question of the pair is refuted
  pub none_linked : (proof : Proof) → RefutesPair a b k links PairOfStates proof → (s t : State) → ¬ IsLinkedPair a b links s t
  none_linked proof h s t pair =
      refuted_pair a b k links PairOfStates proof h (linked_is_satisfiable a b lawful rows memory reads k links s t pair)

  -- equal functions, where some are linked and the question of the difference is refuted
  pub are_equal : IsRight a k verdicts.Holds → IsRight b k verdicts.Holds → (s t : State) → IsLinkedPair a b links s t → (proof : Proof) →
      RefutesPair a b k links DifferenceOfExits proof → AreEqual a b k links
  are_equal holds other s t pair proof h =
      not_different_is_equal a b k links holds other (s, t, pair)
      (λ d. refuted_pair a b k links DifferenceOfExits proof h (different_is_satisfiable a b lawful rows memory reads k links d))

  module _ (form other : Layout) (question : PairQuestion) (conflicts : ℕ) (x y : Start)
      (is : IsPairAnswered a b k form other links question conflicts (Sat x y)) where
    pub linked_starts : IsLinkedPair a b links (start_in a form (written_of x)).state (start_in b other (written_of y)).state
    linked_starts =
        are_linked a b lawful rows memory reads k links is.2.0 question is.2.1 (start_in a form (written_of x)) (start_in b other (written_of y)) is.2.2 is.2.3

    pub paired_starts : ArePairedStarts a b links (start_in a form (written_of x)) (start_in b other (written_of y))
    paired_starts =
        are_paired a b lawful rows memory reads k links is.2.0 question is.2.1 (start_in a form (written_of x)) (start_in b other (written_of y)) is.2.2 is.2.3
        (written_choice form (is_known_at a) (written_of x) is.0) (written_choice other (is_known_at b) (written_of y) is.1)

    module _ (of_difference : question ≡ DifferenceOfExits) (r s : Reached) (h : IsReached a k (start_in a form (written_of x)) false links r)
        (g : IsReached b k (start_in b other (written_of y)) true links s) where
      -- the line of the first words that are not the same is that on which the exits differ
      line_is : first_apart r.words.items s.words.items ≡ differing_line links h.state g.state
      line_is =
          ap (λ z. first_apart z s.words.items) h.words ∙ ap (first_apart (all_lined_words false h.state links)) g.words
          ∙ apart_is_differing links h.state g.state

      pub never_alike : first_apart r.words.items s.words.items ≡ None → ⊥
      never_alike none =
          exits_differ a b lawful rows memory reads k links is.2.0 question is.2.1 (start_in a form (written_of x)) (start_in b other (written_of y)) is.2.2
          is.2.3 of_difference h.at r.step g.at s.step h.state g.state h.exits g.exits (sym line_is ∙ none)

      pub exit_apart : (line : ℕ) → first_apart r.words.items s.words.items ≡ Some line →
          ExitApart a b k links (start_in a form (written_of x)) (start_in b other (written_of y)) line r.step s.step
      exit_apart line found = record {
        first_at = h.at;
        first_state = h.state;
        second_at = g.at;
        second_state = g.state;
        first = h.exits;
        second = g.exits;
        apart = sym line_is ∙ found;
      }
