-- What the layers below the clauses say of a question about two functions gives its answer.
use Rattle.std.proofs.Common.{ℕ, Bool, true, false, List}
use Rattle.std.specs.Prelude.{All}
use Rattle.clause_spec.specs.Clauses.{Cnf, Satisfies}
use Rattle.clause_spec.specs.Refutation.{LogLine, IsRefutation}
use Rattle.clause_spec.specs.Empowering.{IsSpent}
use Rattle.machine_spec.specs.StateText.{Layout}
use Rattle.word_spec.specs.State.{Written}
use Rattle.bilv_spec.specs.Run.{Program}
use Rattle.bilv_spec.specs.QuestionLaws.{Follows}
use Rattle.bilv_spec.specs.Answers.{start_in}
use Rattle.walk_spec.specs.Unrolled.{UnrolledProgram}
use Rattle.walk_spec.specs.Unrolling.{IsLaidOut}
use Rattle.term_spec.specs.ClauseForm.{inputs, IsStartOf}
use Rattle.call_spec.specs.Calls.{PairQuestion}
use Rattle.pair_spec.specs.Links.{Link, ComparesAlike}
use Rattle.pair_spec.specs.Pairs.{Readings, IsTrueOfPair}
use Rattle.pair_spec.specs.PairEvidence.{behind, RefutesPair, SpendsPair}
use Rattle.pair_spec.specs.PairTerms.{SideTerm, SideCells, TellsPair}
use Rattle.pair_spec.specs.PairLayers.{IsPairSide}
use Rattle.pair_spec.proofs.PairClauses.{clauses_of_pair}
use Rattle.pair_spec.proofs.PairStarts.{values_give_pair}

module _ (a b : Program) (k : ℕ) (links : List Link) (question : PairQuestion) (first_asked second_asked : ℕ → Bool) (u w : UnrolledProgram)
    (t x : SideTerm) (c d : SideCells) (alike : All ComparesAlike links) (one : IsPairSide a k false links question first_asked u t c)
    (two : IsPairSide b k true links question second_asked w x d) (cnf : Cnf) (tells : TellsPair u w links question c d cnf) where
  -- a refutation of the clauses is one of the question
  pub pair_refutes : (log : List LogLine) → IsRefutation cnf.variables cnf.clauses log →
      RefutesPair a b k links question (record { clauses = cnf; log = log })
  pair_refutes log refuted = record {
    of_pair = clauses_of_pair a b k links question first_asked second_asked u w t x c d alike one two cnf tells;
    refutation = refuted;
  }

  -- a spent log of the clauses is one of the question
  pub pair_spends : (conflicts : ℕ) (log : List LogLine) → IsSpent cnf.clauses conflicts log →
      SpendsPair a b k links question conflicts (record { clauses = cnf; log = log })
  pair_spends conflicts log spent = record {
    of_pair = clauses_of_pair a b k links question first_asked second_asked u w t x c d alike one two cnf tells;
    spent = spent;
  }

  -- starts of satisfying values show that the question is true
  pub pair_shows : (form other : Layout) → IsLaidOut form u → IsLaidOut other w → (v : ℕ → Bool) → Satisfies v cnf.clauses → (first second : Written) →
      IsStartOf u c.cells v first → IsStartOf w d.cells (behind (inputs u c.cells) v) second →
      (r : Readings) × IsTrueOfPair a b k links r question × Follows a k r.first (start_in a form first) × Follows b k r.second (start_in b other second)
  pair_shows form other laid lies v sat first second given gives =
      let found = values_give_pair a b k links question first_asked second_asked u w t x c d alike one two cnf tells form other laid lies v sat first second
      given gives in
      (found.0, found.3, found.4, found.5)
