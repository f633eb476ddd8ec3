use Rattle.std.proofs.Common.{arith}
use Rattle.note_check.proofs.Accepted.{has_header}
use Rattle.note_check.proofs.ranges.segment_count.Goals as goal

pub half-requires-clause-order : goal.half-requires-clause-order
half-requires-clause-order c = let h = has_header c.args.file.now c.requires in omega arith

pub half-requires-clause-room : goal.half-requires-clause-room
half-requires-clause-room c = let h = has_header c.args.file.now c.requires in omega arith
