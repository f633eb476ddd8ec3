use Rattle.condition_tests.proofs.Asked.{asked_bytes, asked_gifts, formed_cells}
use Rattle.condition_tests.proofs.studies.broken_of.Goals as goal

pub frame_question-requires-clause-walkable : goal.frame_question-requires-clause-walkable
frame_question-requires-clause-walkable c = c.requires.askable.walkable

pub frame_question-requires-clause-passive : goal.frame_question-requires-clause-passive
frame_question-requires-clause-passive c = c.requires.askable.passive

pub frame_cells-requires-clause-bytes : goal.frame_cells-requires-clause-bytes
frame_cells-requires-clause-bytes c =
    asked_bytes c.args.passive.now _ c.in_ok-question.question c.in_ok-question.ensures.of c.requires.askable

pub frame_cells-requires-clause-gifts : goal.frame_cells-requires-clause-gifts
frame_cells-requires-clause-gifts c =
    asked_gifts c.args.passive.now _ c.in_ok-question.question c.in_ok-question.ensures.of c.requires.askable

pub broken_zeros-requires-clause-formed : goal.broken_zeros-requires-clause-formed
broken_zeros-requires-clause-formed c = formed_cells c.in_ok-question.question _ c.in_ok-celled.celled c.in_ok-celled.ensures
