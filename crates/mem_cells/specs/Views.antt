-- Cells as those of the definitions.
use Rattle.std.specs.Prelude.{ℕ, ◌≡◌, List, map}
use Rattle.term_spec.specs.Cells as walk
use Rattle.term_spec.specs.Cells.{TellsCells}
use Rattle.walk_spec.specs.Unrolled.{UnrolledProgram}
use Rattle.term_spec.specs.WalkQuestions.{is_asked}
use Rattle.question_form.specs.declared.questions.Question.{Question}
use Rattle.question_form.specs.Questions.{program_of_question, term_of}
use Rattle.mem_cells.specs.declared.cells.Agreement.{Agreement}
use Rattle.mem_cells.specs.declared.cells.AskedByte.{AskedByte}
use Rattle.mem_cells.specs.declared.cells.Celled.{Celled}

-- two reads that agree
abbrev pub agreement_of : Agreement → walk.Agreement
agreement_of a = record { condition = a.condition.0; read = a.read; other = a.other }

-- a byte that is asked
abbrev pub asked_of : AskedByte → walk.AskedByte
asked_of a = record { condition = a.condition.0; read = a.read; byte = a.byte }

-- cells
abbrev pub cells_of : Celled → walk.Cells
cells_of c = record {
  nodes = c.dag;
  addresses = map (λ t. t.0) c.addresses.items;
  agrees = map agreement_of c.agrees.items;
  asked = map asked_of c.asked.items;
  root = c.root.0;
}

-- the unrolled program that cells are of
abbrev pub program_of_cells : Celled → UnrolledProgram
program_of_cells c = program_of_question c.question.now

-- cells are those of a question
pub record AreCellsOf (q : Question) (added : List ℕ) (c : Celled) : Type 0 where
  pub of : c.question.now ≡ q
  pub tells : TellsCells (program_of_cells c) (term_of q) (is_asked added (program_of_question q).literals) (cells_of c)
