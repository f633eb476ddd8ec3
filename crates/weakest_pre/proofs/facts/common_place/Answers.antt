use Rattle.weakest_pre.proofs.KnownWords.{common_above}
use Rattle.weakest_pre.proofs.facts.common_place.Goals as goal

pub returns-clause-same : goal.returns-clause-same
returns-clause-same c = common_above c.args.low c.args.high c.ranges.low.fits c.ranges.high.fits
