-- The values as those of the definitions.
use Rattle.std.specs.Prelude.{◌≡◌, List, map}
use Rattle.call_spec.specs.Calls.{PairQuestion, PairOfStates, DifferenceOfExits}
use Rattle.walk_spec.specs.Unrolled.{UnrolledProgram}
use Rattle.pair_spec.specs.PairTerms as spec
use Rattle.frame_terms.specs.HeadlessTerms.{as_cells}
use Rattle.question_form.specs.FrameViews.{IsHeadless}
use Rattle.question_form.specs.Questions.{program_of_question}
use Rattle.mem_cells.specs.FrameViews.{frame_cells_of}
use Rattle.mem_cells.specs.declared.cells.Celled.{Celled}
use Rattle.mem_cells.specs.Views.{cells_of, program_of_cells}
use Rattle.mem_cells.specs.Words.{places_of}
use Rattle.pair_form.specs.declared.kinds.PairKind.{PairKind}
use Rattle.pair_form.specs.declared.kinds.PairKind.TheVariants.{Pair, Difference}
use Rattle.pair_form.specs.declared.sides.SideQuestion.{SideQuestion}
use Rattle.pair_form.specs.declared.sides.SideCells.{SideCells}

-- which question it is
abbrev pub pair_question_of : PairKind → PairQuestion
pair_question_of Pair = PairOfStates
pair_question_of Difference = DifferenceOfExits

-- the unrolled program of a side
abbrev pub program_of_side_question : SideQuestion → UnrolledProgram
program_of_side_question s = program_of_question s.question

abbrev pub program_of_side_cells : SideCells → UnrolledProgram
program_of_side_cells c = program_of_cells c.celled

-- the cells are those of a program, which has no head, and reads the memory at entry alone
pub record AreOfProgram (c : Celled) : Type 0 where
  pub headless : IsHeadless c.question.now.passive.now.unrolled.now
  pub flat : frame_cells_of c ≡ as_cells (cells_of c)

-- the terms of a side
abbrev pub side_term_of : SideQuestion → spec.SideTerm
side_term_of s = record {
  nodes = s.question.dag;
  root = s.question.root.0;
  entries = places_of s.entries.items;
  exits = places_of s.exits.items;
}

-- the cells of a side
abbrev pub side_cells_of : SideCells → spec.SideCells
side_cells_of c = record {
  cells = cells_of c.celled;
  entries = places_of c.entries.items;
  exits = places_of c.exits.items;
}
