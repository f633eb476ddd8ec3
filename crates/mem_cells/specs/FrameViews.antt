-- Cells as those of frames.
use Rattle.std.specs.Prelude.{ℕ, ◌≡◌, List, map}
use Rattle.term_spec.specs.WalkQuestions.{is_asked}
use Rattle.frame_spec.specs.FrameWalk.{UnrolledProgram}
use Rattle.frame_terms.specs.FrameCells as frames
use Rattle.frame_terms.specs.FrameCells.{TellsCells}
use Rattle.question_form.specs.declared.questions.Question.{Question}
use Rattle.question_form.specs.Questions.{term_of}
use Rattle.question_form.specs.FrameQuestions.{frame_of_question, heads_of_question, is_of_heads}
use Rattle.mem_cells.specs.declared.cells.Agreement.{Agreement}
use Rattle.mem_cells.specs.declared.cells.AskedByte.{AskedByte}
use Rattle.mem_cells.specs.declared.cells.BaseRead.{BaseRead}
use Rattle.mem_cells.specs.declared.cells.Celled.{Celled}

-- a base read
abbrev pub read_of : BaseRead → frames.BaseRead
read_of b = record { part = b.part; address = b.address }

-- two reads that agree
abbrev pub frame_agreement_of : Agreement → frames.Agreement
frame_agreement_of a = record { condition = a.condition.0; part = a.part; read = a.read; other = a.other }

-- a byte that is asked
abbrev pub frame_asked_of : AskedByte → frames.AskedByte
frame_asked_of a = record { condition = a.condition.0; part = a.part; read = a.read; byte = a.byte }

-- cells
abbrev pub frame_cells_of : Celled → frames.Cells
frame_cells_of c = record {
  nodes = c.dag;
  addresses = map (λ t. t.0) c.addresses.items;
  reads = map read_of c.reads.items;
  agrees = map frame_agreement_of c.agrees.items;
  asked = map frame_asked_of c.asked.items;
  root = c.root.0;
}

-- the unrolled frame that cells are of
abbrev pub frame_of_cells : Celled → UnrolledProgram
frame_of_cells c = frame_of_question c.question.now

-- cells are those of a question of a frame
pub record AreFrameCellsOf (q : Question) (added : List ℕ) (c : Celled) : Type 0 where
  pub of : c.question.now ≡ q
  pub tells : TellsCells (frame_of_cells c) (heads_of_question q) (is_of_heads q) (term_of q) (is_asked added (frame_of_question q).literals) (frame_cells_of c)
