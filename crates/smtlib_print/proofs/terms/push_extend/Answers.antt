use Rattle.smtlib_print.proofs.terms.push_extend.Goals as goal

pub returns-then-signed : goal.returns-then-signed
returns-then-signed c = rw c.if-signed.true c.push_signed.ensures

pub returns : goal.returns
returns c = rw c.if-signed.false c.push_unsigned.ensures
