use Rattle.std.proofs.Common.{arith}
use Rattle.note_check.proofs.Accepted.{has_header, has_symbol}
use Rattle.note_check.proofs.symbols.symbol_place.Goals as goal

pub returns-clause-room : goal.returns-clause-room
returns-clause-room c = omega (arith, has_symbol c.args.file.now c.args.i c.args.k c.requires.accepted c.requires.table c.requires.within)

pub returns-clause-order : goal.returns-clause-order
returns-clause-order c = has_header c.args.file.now c.requires.accepted
