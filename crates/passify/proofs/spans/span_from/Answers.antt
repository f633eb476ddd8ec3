use Rattle.std.proofs.Common.{arith}
use Rattle.passify.proofs.spans.span_from.Goals as goal

pub returns-clause-few : goal.returns-clause-few
returns-clause-few c = omega (arith, c.ranges.bytes.fits)
