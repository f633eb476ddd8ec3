use Rattle.std.proofs.Common.{sym, ◌∙◌, arith, ◌+◌, length}
use Rattle.cnf_form.proofs.Cuts.{line-cut, line-last, behind-by-length}
use Rattle.cnf_form.proofs.words.next_line.Goals as goal

pub returns-then-byte-eq10-clause-lines : goal.returns-then-byte-eq10-clause-lines
returns-then-byte-eq10-clause-lines c = line-cut c.args.text.now c.loop-i.i c.loop-i-test.true c.if-byte-eq10.true c.loop-i.invariant

pub returns-then-byte-eq10-clause-behind : goal.returns-then-byte-eq10-clause-behind
returns-then-byte-eq10-clause-behind c = behind-by-length c.args.text.now (c.loop-i.i + 1) (let h = c.loop-i-test.true in omega arith)

pub returns-else-is_empty-clause-lines : goal.returns-else-is_empty-clause-lines
returns-else-is_empty-clause-lines c = line-last c.args.text.now c.loop-i.i c.loop-i-test.false
    (sym c.is_empty.ensures ∙ c.if-is_empty.false) c.loop-i.invariant

pub returns-else-is_empty-clause-behind : goal.returns-else-is_empty-clause-behind
returns-else-is_empty-clause-behind c = behind-by-length c.args.text.now (length c.args.text.now) (omega arith)
