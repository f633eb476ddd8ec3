use Rattle.call_form.specs.declared.kind.Kind.TheVariants.{Fail}
use Rattle.condition_tests.proofs.Asked.{askable_question}
use Rattle.condition_tests.proofs.studies.study_fails.Goals as goal

pub question-requires-clause-walkable : goal.question-requires-clause-walkable
question-requires-clause-walkable c = c.requires.askable.walkable

pub question-requires-clause-passive : goal.question-requires-clause-passive
question-requires-clause-passive c = c.requires.askable.tells

pub study_question-requires-clause-askable : goal.study_question-requires-clause-askable
study_question-requires-clause-askable c =
    askable_question c.args.passive.now Fail c.in_ok-question.question c.in_ok-question.ensures.of c.requires.askable
