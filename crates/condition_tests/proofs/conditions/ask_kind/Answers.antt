use Rattle.condition_tests.proofs.conditions.ask_kind.Goals as goal

pub question-requires-clause-walkable : goal.question-requires-clause-walkable
question-requires-clause-walkable c = c.requires.askable.walkable

pub question-requires-clause-passive : goal.question-requires-clause-passive
question-requires-clause-passive c = c.requires.askable.tells
