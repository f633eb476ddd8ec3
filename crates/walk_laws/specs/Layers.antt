-- What joins the layers below the clauses of a question to what is claimed of a program.
use Rattle.std.specs.Prelude.{ℕ, ◌≡◌, ◌≤◌, ◌<◌, ◌+◌, ◌^◌, Bool, false, Some, length}
use Rattle.clause_spec.specs.Clauses.{Cnf, Satisfies}
use Rattle.machine_spec.specs.StateText.{Layout, IsWritten, last_step}
use Rattle.word_spec.specs.State.{Written}
use Rattle.bilv_spec.specs.Run.{Program}
use Rattle.bilv_spec.specs.Points.{is_known_at}
use Rattle.bilv_spec.specs.Questions.{Reading, IsTrue}
use Rattle.call_spec.specs.Calls.{Question}
use Rattle.bilv_spec.specs.QuestionLaws.{Follows}
use Rattle.bilv_spec.specs.PointLaws.{HasLawfulRows}
use Rattle.bilv_spec.specs.Answers.{start_in}
use Rattle.bilv_spec.specs.Evidence.{AreOfQuestion}
use Rattle.walk_spec.specs.Unrolled.{UnrolledProgram, byte_of_runs}
use Rattle.walk_spec.specs.Unrolling.{IsUnrolling, IsLaidOut}
use Rattle.term_spec.specs.WalkQuestions.{QuestionTerm, TellsQuestion}
use Rattle.term_spec.specs.Cells.{Cells, AreFormed, TellsCells}
use Rattle.term_spec.specs.ClauseForm.{TellsClauses, IsBroken, IsStartOf, IsReadingOf, reading}
use Rattle.term_spec.specs.TermLaws.{AsksKnown, AsksLiterals}

-- What is had of a machine and of a file: at most 31 registers and 4 flags, so that the inputs are within the price; an entry that a state can be at, without
-- which every term would tell a question; and known bytes that a memory can hold, without which no start would have those that are not asked.
pub record IsFitting (u : UnrolledProgram) : Type 0 where
  pub entry : u.entry < 2 ^ 32
  pub known : (a b : ℕ) → byte_of_runs u.known a ≡ Some b → b < 256
  pub registers : length u.registers ≤ 31
  pub flags : u.flags ≤ 4

-- what the layers below the clauses have said of a question of a program, over known bytes that are asked
pub record IsLayered (p : Program) (k : ℕ) (question : Question) (asked : ℕ → Bool) (u : UnrolledProgram) (t : QuestionTerm) (c : Cells) : Type 0 where
  pub lawful : HasLawfulRows p
  pub unrolling : IsUnrolling p k u
  pub fitting : IsFitting u
  pub asks_known : AsksKnown p asked
  pub asks_literals : AsksLiterals p k asked
  pub term : TellsQuestion u question t
  pub cells : TellsCells u t asked c

-- the clauses of the cells are those of the question
abbrev pub ClausesOfQuestion : Type 0
ClausesOfQuestion = (p : Program) (k : ℕ) (question : Question) (asked : ℕ → Bool) (u : UnrolledProgram) (t : QuestionTerm) (c : Cells) →
    IsLayered p k question asked u t c → (cnf : Cnf) → TellsClauses u c cnf → AreOfQuestion p k question cnf

-- Values that satisfy the clauses, and a start that is theirs: its reading makes the question true, and it follows the reading. There is such a start only
-- where no base read has another byte than the known one.
abbrev pub ValuesGiveStart : Type 0
ValuesGiveStart = (p : Program) (k : ℕ) (question : Question) (asked : ℕ → Bool) (u : UnrolledProgram) (t : QuestionTerm) (c : Cells) →
    IsLayered p k question asked u t c → (cnf : Cnf) → TellsClauses u c cnf → (layout : Layout) → IsLaidOut layout u →
    (v : ℕ → Bool) → Satisfies v cnf.clauses → (w : Written) → IsStartOf u c v w →
    (r : Reading) × IsReadingOf u c v w r × IsTrue p k r question × Follows p k r (start_in p layout w)

-- a start of values can be written, where the steps of so many points can be
abbrev pub StartIsWritten : Type 0
StartIsWritten = (p : Program) (k : ℕ) (u : UnrolledProgram) → IsUnrolling p k u → (layout : Layout) → IsLaidOut layout u → length u.points ≤ last_step + 1 →
    (c : Cells) (v : ℕ → Bool) (w : Written) → IsStartOf u c v w → IsWritten layout (is_known_at p) w

-- and where there is one, no base read has another byte than the known one
abbrev pub StartBreaksNone : Type 0
StartBreaksNone = (u : UnrolledProgram) (c : Cells) → AreFormed u c → (v : ℕ → Bool) (w : Written) → IsStartOf u c v w →
    (a : ℕ) → ¬ IsBroken u c (reading u c v) a

-- A known byte that a base read of satisfying values has not is one that was not asked: asking it too rules these values out.
abbrev pub BrokenIsNew : Type 0
BrokenIsNew = (u : UnrolledProgram) (t : QuestionTerm) (asked : ℕ → Bool) (c : Cells) → TellsCells u t asked c → (cnf : Cnf) → TellsClauses u c cnf →
    (v : ℕ → Bool) → Satisfies v cnf.clauses → (a : ℕ) → IsBroken u c (reading u c v) a → asked a ≡ false
