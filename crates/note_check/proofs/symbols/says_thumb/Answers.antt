use Rattle.std.proofs.Common.{arith}
use Rattle.note_check.proofs.symbols.says_thumb.Goals as goal

pub returns : goal.returns
returns c = λ i k t.
    let w = t.table.1 in
    let n = c.table_count-i-end.ensures.all t.table.0 in
    c.loop-i.invariant i (omega arith) k t
