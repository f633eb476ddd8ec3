use Rattle.weakest_pre.proofs.KnownWords.{shr_high}
use Rattle.weakest_pre.proofs.facts.from_place.Goals as goal

pub returns-clause-below : goal.returns-clause-below
returns-clause-below c = shr_high c.args.word c.args.place c.requires c.ranges.word.fits
