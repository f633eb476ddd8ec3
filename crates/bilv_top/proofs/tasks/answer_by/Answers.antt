use Rattle.bilv_top.proofs.tasks.answer_by.Goals as goal

pub returns-clause-done : goal.returns-clause-done
returns-clause-done g c = c.model_by.ensures.judged

pub returns-clause-begun : goal.returns-clause-begun
returns-clause-begun g c = c.model_by.ensures.begun
