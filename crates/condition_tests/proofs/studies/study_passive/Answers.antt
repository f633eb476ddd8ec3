use Rattle.condition_tests.proofs.studies.study_passive.Goals as goal

pub count_questions-requires : goal.count_questions-requires
count_questions-requires c = record { askable = c.requires.decidable.askable }

pub broken_of-requires-clause-askable : goal.broken_of-requires-clause-askable
broken_of-requires-clause-askable c = c.requires.decidable.frame

pub study_fails-requires : goal.study_fails-requires
study_fails-requires c = record { askable = c.requires.decidable.askable }
