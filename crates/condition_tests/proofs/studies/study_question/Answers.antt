use Rattle.std.proofs.Common.{subst, sym}
use Rattle.asked_bytes.specs.AskedBytes.{AreRising}
use Rattle.condition_tests.proofs.Asked.{askable_cells}
use Rattle.condition_tests.proofs.studies.study_question.Goals as goal

pub cells_some-requires-clause-bytes : goal.cells_some-requires-clause-bytes
cells_some-requires-clause-bytes c = c.requires.askable.bytes

pub cells_some-requires-clause-rising : goal.cells_some-requires-clause-rising
cells_some-requires-clause-rising c = subst AreRising (sym c.deref.ensures.value) c.in_ok-asked.ensures

pub study_cells-requires-clause-formed : goal.study_cells-requires-clause-formed
study_cells-requires-clause-formed c = c.in_ok-celled.ensures.cells.tells.formed

pub study_cells-requires-clause-askable : goal.study_cells-requires-clause-askable
study_cells-requires-clause-askable c =
    askable_cells c.args.question.now c.deref.result.now c.in_ok-celled.celled c.in_ok-celled.ensures.cells c.requires.askable
