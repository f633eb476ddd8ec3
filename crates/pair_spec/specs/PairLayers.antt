-- What joins the layers below the clauses of two sides to what is claimed of two functions.
use Rattle.std.specs.Prelude.{ℕ, ◌≡◌, Bool, true, false, List, All}
use Rattle.clause_spec.specs.Clauses.{Cnf, Satisfies}
use Rattle.machine_spec.specs.StateText.{Layout}
use Rattle.word_spec.specs.State.{Written}
use Rattle.bilv_spec.specs.Run.{Program}
use Rattle.bilv_spec.specs.QuestionLaws.{Follows}
use Rattle.bilv_spec.specs.PointLaws.{HasLawfulRows}
use Rattle.bilv_spec.specs.Answers.{start_in}
use Rattle.walk_spec.specs.Unrolled.{UnrolledProgram}
use Rattle.walk_spec.specs.Unrolling.{IsUnrolling, IsLaidOut}
use Rattle.term_spec.specs.ClauseForm.{inputs, IsBroken, IsStartOf, IsReadingOf}
use Rattle.term_spec.specs.TermLaws.{AsksKnown, AsksLiterals}
use Rattle.walk_laws.specs.Layers.{IsFitting}
use Rattle.pair_spec.specs.Links.{Link, ComparesAlike, asking}
use Rattle.call_spec.specs.Calls.{PairQuestion}
use Rattle.pair_spec.specs.Pairs.{Readings, IsTrueOfPair}
use Rattle.pair_spec.specs.PairEvidence.{behind, AreOfPair}
use Rattle.pair_spec.specs.PairTerms.{SideTerm, SideCells, TellsSide, TellsSideCells, first_reading, second_reading, TellsPair}

-- What the layers below the clauses have said of a side, over known bytes that are asked. Its unrolled program is that in which the flags that links compare
-- are asked for at the exit.
pub record IsPairSide (p : Program) (k : ℕ) (second : Bool) (links : List Link) (question : PairQuestion) (asked : ℕ → Bool) (u : UnrolledProgram)
    (t : SideTerm) (c : SideCells) : Type 0 where
  pub lawful : HasLawfulRows p
  pub unrolling : IsUnrolling (asking second links p) k u
  pub fitting : IsFitting u
  pub asks_known : AsksKnown p asked
  pub asks_literals : AsksLiterals p k asked
  pub term : TellsSide u second links question t
  pub cells : TellsSideCells u links question t asked c

-- The clauses of both sides are those of the question about both functions, where links compare registers and flags alone, as those of a text do: a flag
-- within `old` is not asked for at the exit.
abbrev pub ClausesOfPair : Type 0
ClausesOfPair = (a b : Program) (k : ℕ) (links : List Link) (question : PairQuestion) (first_asked second_asked : ℕ → Bool) (u w : UnrolledProgram)
    (t x : SideTerm) (c d : SideCells) → All ComparesAlike links → IsPairSide a k false links question first_asked u t c →
    IsPairSide b k true links question second_asked w x d →
    (cnf : Cnf) → TellsPair u w links question c d cnf → AreOfPair a b k links question cnf

-- Values that satisfy the clauses, and a start of each side that is theirs: their readings make the question true, and the starts follow them.
abbrev pub ValuesGivePair : Type 0
ValuesGivePair = (a b : Program) (k : ℕ) (links : List Link) (question : PairQuestion) (first_asked second_asked : ℕ → Bool) (u w : UnrolledProgram)
    (t x : SideTerm) (c d : SideCells) → All ComparesAlike links → IsPairSide a k false links question first_asked u t c →
    IsPairSide b k true links question second_asked w x d →
    (cnf : Cnf) → TellsPair u w links question c d cnf → (form other : Layout) → IsLaidOut form u → IsLaidOut other w →
    (v : ℕ → Bool) → Satisfies v cnf.clauses → (first second : Written) →
    IsStartOf u c.cells v first → IsStartOf w d.cells (behind (inputs u c.cells) v) second →
    (r : Readings) × IsReadingOf u c.cells v first r.first × IsReadingOf w d.cells (behind (inputs u c.cells) v) second r.second
    × IsTrueOfPair a b k links r question × Follows a k r.first (start_in a form first) × Follows b k r.second (start_in b other second)

-- A known byte that a base read of satisfying values has not, on one of the sides, was not asked there: asking it too rules these values out.
abbrev pub BrokenIsNewInPair : Type 0
BrokenIsNewInPair = (u w : UnrolledProgram) (links : List Link) (question : PairQuestion) (t x : SideTerm) (first_asked second_asked : ℕ → Bool)
    (c d : SideCells) → TellsSideCells u links question t first_asked c → TellsSideCells w links question x second_asked d →
    (cnf : Cnf) → TellsPair u w links question c d cnf → (v : ℕ → Bool) → Satisfies v cnf.clauses → (at : ℕ) →
    (IsBroken u c.cells (first_reading u c v) at → first_asked at ≡ false)
    × (IsBroken w d.cells (second_reading u c w d v) at → second_asked at ≡ false)
