use Rattle.verdict.proofs.Grounding.{decidable}
use Rattle.condition_tests.proofs.studies.passive_of.Goals as goal

pub passive-requires-clause-walkable : goal.passive-requires-clause-walkable
passive-requires-clause-walkable c = c.requires.walkable

pub passive-requires-clause-formed : goal.passive-requires-clause-formed
passive-requires-clause-formed c = c.requires.formed

pub returns : goal.returns
returns c = decidable c.args.unrolled.now c.in_ok-passive.passive c.requires c.in_ok-passive.ensures
