use Rattle.std.proofs.Common.{arith}
use Rattle.note_check.proofs.Accepted.{has_header}
use Rattle.note_check.proofs.symbols.table_count.Goals as goal

pub word-requires-clause-order : goal.word-requires-clause-order
word-requires-clause-order c = let h = has_header c.args.file.now c.requires in omega arith

pub word-requires-clause-room : goal.word-requires-clause-room
word-requires-clause-room c = let h = has_header c.args.file.now c.requires in omega arith

pub half-requires-clause-room : goal.half-requires-clause-room
half-requires-clause-room c = let h = has_header c.args.file.now c.requires in omega arith
