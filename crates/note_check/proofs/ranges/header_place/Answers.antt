use Rattle.std.proofs.Common.{arith}
use Rattle.note_check.proofs.Accepted.{has_header, has_segment}
use Rattle.note_check.proofs.ranges.header_place.Goals as goal

pub returns-clause-room : goal.returns-clause-room
returns-clause-room c = omega (arith, has_segment c.args.file.now c.args.i c.requires.accepted c.requires.within)

pub returns-clause-order : goal.returns-clause-order
returns-clause-order c = has_header c.args.file.now c.requires.accepted
