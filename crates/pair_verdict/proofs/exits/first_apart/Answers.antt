use Rattle.std.proofs.Common.{◌∙◌, sym, arith}
use Rattle.pair_verdict.proofs.ApartLoop.{apart_second_end}
use Rattle.pair_verdict.proofs.exits.first_apart.Goals as goal

pub returns-else-i-second : goal.returns-else-i-second
returns-else-i-second c =
    let past = c.if-i-second.false in
    sym (c.loop-i.invariant ∙ apart_second_end c.args.first.now c.args.second.now c.loop-i.i (omega (arith, past)))
