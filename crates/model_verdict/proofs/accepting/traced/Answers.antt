use Rattle.model_verdict.proofs.accepting.traced.Goals as goal

pub trace-requires-clause-some : goal.trace-requires-clause-some
trace-requires-clause-some g c = c.args.budget.now.in_range.points.0

pub trace-requires-clause-rising : goal.trace-requires-clause-rising
trace-requires-clause-rising g c = rw c.listed_of.ensures c.requires.sound.1

pub returns : goal.returns
returns g c = λ r state choices.
    let e = rw (c.fill_of.ensures, c.listed_of.ensures) at c.in_ok-traced.ensures.ending r in
    let b = rw (c.fill_of.ensures, c.listed_of.ensures) at c.in_ok-traced.ensures.bytes r in
    record { comes = e state choices; bytes = b state choices; rise = c.in_ok-traced.ensures.rising }
