use Rattle.std.proofs.Common.{arith}
use Rattle.note_check.proofs.Accepted.{symbol_below}
use Rattle.note_check.proofs.symbols.has_thumb_symbol.Goals as goal

pub returns : goal.returns
returns c = λ k t.
    let w = symbol_below c.args.file.now c.args.i k c.requires.accepted t.table t.within in
    c.loop-k.invariant k (omega arith) t
