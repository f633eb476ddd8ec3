use Rattle.std.proofs.Common.{arith}
use Rattle.note_check.proofs.symbols.has_symbols.Goals as goal

pub returns : goal.returns
returns c = λ i t.
    let w = t.1 in
    let n = c.table_count-i-end.ensures.all t.0 in
    c.loop-i.invariant i (omega arith) t
