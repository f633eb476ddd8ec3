use Rattle.suite_notes.proofs.expanding.notes_of.Goals as goal

pub returns-in-Err : goal.returns-in-Err
returns-in-Err c = c.unexpanded.ensures c.args.file.now c.in-Err.ensures.refused
