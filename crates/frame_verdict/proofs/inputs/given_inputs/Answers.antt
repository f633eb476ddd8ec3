use Rattle.std.proofs.Common.{◌+◌, ◌*◌, sym, subst}
use Rattle.frame_verdict.specs.FreeInputs.{AreGiven}
use Rattle.frame_verdict.proofs.FreeCounts.{given_there}
use Rattle.frame_verdict.proofs.inputs.given_inputs.Goals as goal

pub returns-then-number-unrolled-clause-given : goal.returns-then-number-unrolled-clause-given
returns-then-number-unrolled-clause-given c =
    let v = c.args.unrolled.now in
    subst (λ z. AreGiven v z (32 * c.count_in-registers.result + c.count_in-flags.result)) (sym c.in-Contract.is)
    (given_there v c.in-Contract.number c.index-unrolled-number.result c.registers-from.result.0 c.registers-from.result.1 c.flag_count.result
    c.count_in-registers.result c.count_in-flags.result c.if-number-unrolled.true c.registers-from.ensures.first
    c.registers-from.ensures.count c.flag_count.ensures c.count_in-registers.ensures.is c.count_in-flags.ensures.is)
