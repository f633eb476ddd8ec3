use Rattle.std.proofs.Common.{arith}
use Rattle.note_check.proofs.Accepted.{has_header}
use Rattle.note_check.proofs.options.misses_compressed.Goals as goal

pub word-requires-clause-room : goal.word-requires-clause-room
word-requires-clause-room c = let h = has_header c.args.file.now c.requires in omega arith
