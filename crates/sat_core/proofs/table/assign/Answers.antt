use Rattle.sat_core.proofs.Places.{fewer-open}
use Rattle.sat_core.proofs.table.assign.Goals as goal

pub returns-clause-fewer : goal.returns-clause-fewer
returns-clause-fewer c = λ h. rw (c.variable.ensures.value, c.is_positive.ensures)
    (fewer-open c.args.table.now c.args.lit c.requires.within c.requires.not_false h)
