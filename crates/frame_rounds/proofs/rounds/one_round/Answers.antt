use Rattle.frame_terms.proofs.CountedStores.{gift_stores}
use Rattle.question_form.specs.FrameQuestions.{frame_of_question}
use Rattle.sat_core.specs.declared.answer.Answer.TheVariants as search
use Rattle.frame_rounds.specs.declared.answers.FrameAnswered.TheVariants as answer
use Rattle.frame_rounds.specs.declared.rounds.Round.TheVariants.{Answered}
use Rattle.frame_rounds.proofs.FrameJudging.{layers, of_question, said, satisfied, round_refuted, round_spent, one_byte, round_judged}
use Rattle.frame_rounds.proofs.rounds.one_round.Goals as goal

pub frame_cells-requires-clause-gifts : goal.frame_cells-requires-clause-gifts
frame_cells-requires-clause-gifts c = gift_stores (frame_of_question c.args.question.now) c.requires.askable.walkable

pub judge_values-requires-clause-one : goal.judge_values-requires-clause-one
judge_values-requires-clause-one c =
    one_byte c.args.added.now c.args.conflicts c.in_ok-celled.celled c.in_ok-clauses.clauses
    (layers c.args.question.now c.args.added.now c.in_ok-celled.celled c.in_ok-celled.ensures c.requires.askable c.requires.added c.requires.tells)
    c.in_ok-clauses.ensures c.deref.result.now
    (satisfied c.in_ok-clauses.clauses c.deref.result.now c.in-Sat.values.items c.deref.ensures.value
    (said c.in_ok-clauses.clauses c.args.conflicts c.in_ok-values.field-0 (search.Sat c.in-Sat.values) c.in_ok-values.ensures c.in-Sat.is).1)

pub judge_values-requires-clause-askable : goal.judge_values-requires-clause-askable
judge_values-requires-clause-askable c =
    (layers c.args.question.now c.args.added.now c.in_ok-celled.celled c.in_ok-celled.ensures c.requires.askable c.requires.added c.requires.tells).askable

pub returns-in-Sat : goal.returns-in-Sat
returns-in-Sat c =
    of_question c.args.question.now c.args.added.now c.args.conflicts c.in_ok-celled.celled c.in_ok-judged-in-Sat.judged c.in_ok-celled.ensures
    (round_judged c.args.added.now c.args.conflicts c.in_ok-celled.celled c.in_ok-clauses.clauses
    (layers c.args.question.now c.args.added.now c.in_ok-celled.celled c.in_ok-celled.ensures c.requires.askable c.requires.added c.requires.tells)
    c.in_ok-clauses.ensures c.deref.result.now
    (satisfied c.in_ok-clauses.clauses c.deref.result.now c.in-Sat.values.items c.deref.ensures.value
    (said c.in_ok-clauses.clauses c.args.conflicts c.in_ok-values.field-0 (search.Sat c.in-Sat.values) c.in_ok-values.ensures c.in-Sat.is).1)
    c.in_ok-judged-in-Sat.judged c.in_ok-judged-in-Sat.ensures)

pub returns-in-Unsat : goal.returns-in-Unsat
returns-in-Unsat c =
    of_question c.args.question.now c.args.added.now c.args.conflicts c.in_ok-celled.celled
    (Answered (answer.Refuted (record { clauses = c.in_ok-clauses.clauses; log = c.in-Unsat.log })))
    c.in_ok-celled.ensures
    (round_refuted c.args.added.now c.args.conflicts c.in_ok-celled.celled c.in_ok-clauses.clauses
    (layers c.args.question.now c.args.added.now c.in_ok-celled.celled c.in_ok-celled.ensures c.requires.askable c.requires.added c.requires.tells)
    c.in_ok-clauses.ensures
    c.in-Unsat.log (said c.in_ok-clauses.clauses c.args.conflicts c.in_ok-values.field-0 (search.Unsat c.in-Unsat.log) c.in_ok-values.ensures c.in-Unsat.is))

pub returns : goal.returns
returns c =
    of_question c.args.question.now c.args.added.now c.args.conflicts c.in_ok-celled.celled
    (Answered (answer.Spent (record { clauses = c.in_ok-clauses.clauses; log = c.in-Spent.log })))
    c.in_ok-celled.ensures
    (round_spent c.args.added.now c.args.conflicts c.in_ok-celled.celled c.in_ok-clauses.clauses
    (layers c.args.question.now c.args.added.now c.in_ok-celled.celled c.in_ok-celled.ensures c.requires.askable c.requires.added c.requires.tells)
    c.in_ok-clauses.ensures
    c.in-Spent.log (said c.in_ok-clauses.clauses c.args.conflicts c.in_ok-values.field-0 (search.Spent c.in-Spent.log) c.in_ok-values.ensures c.in-Spent.is).0)
