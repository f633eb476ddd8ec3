use Rattle.std.proofs.Common.{sym, arith}
use Rattle.table_run.proofs.Ranges.{within_span}
use Rattle.table_run.proofs.spans.is_within.Goals as goal

pub returns : goal.returns
returns c = sym (within_span c.args.at c.args.first c.args.count c.ranges.at.fits c.ranges.first.fits (let low = c.ranges.count.fits in omega arith))
