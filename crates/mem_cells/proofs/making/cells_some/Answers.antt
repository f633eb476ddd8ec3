use Rattle.term_spec.specs.WalkQuestions.{question_room}
use Rattle.question_form.specs.Questions.{program_of_question}
use Rattle.mem_cells.proofs.Headless.{told_within}
use Rattle.mem_cells.proofs.making.cells_some.Goals as goal

pub cells_with_words-requires-clause-terms : goal.cells_with_words-requires-clause-terms
cells_with_words-requires-clause-terms c = (question_room (program_of_question c.args.question.now), c.requires.terms)

pub returns-clause-cells : goal.returns-clause-cells
returns-clause-cells c = told_within c.args.question.now c.args.added.now _ _ c.requires.terms c.in_ok-celled.ensures.cells
