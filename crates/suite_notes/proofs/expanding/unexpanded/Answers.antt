use Rattle.suite_notes.proofs.Plain.{plain_of}
use Rattle.suite_notes.proofs.expanding.unexpanded.Goals as goal

pub returns-in_default : goal.returns-in_default
returns-in_default c = λ file is. plain_of file c.args.template.items c.args.fault c.in_default.not-Memory is
