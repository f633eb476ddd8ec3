use Rattle.std.proofs.Common.{ap, sym, ◌∙◌, arith}
use Rattle.bit_blast.specs.Laid.{given_sets}
use Rattle.bit_blast.proofs.GivenInputs.{sets_other, sets_out, sets_there}
use Rattle.bit_blast.proofs.laying.given_sets.Goals as goal

pub returns-then-number-unrolled : goal.returns-then-number-unrolled
returns-then-number-unrolled c =
    sets_there c.args.unrolled.now.stepped.now c.in-Contract.number c.index-unrolled-number.result (omega arith)
    ∙ sym (ap (given_sets c.args.unrolled.now) c.in-Contract.is)

pub returns-else-number-unrolled : goal.returns-else-number-unrolled
returns-else-number-unrolled c =
    sets_out c.args.unrolled.now.stepped.now c.in-Contract.number (omega arith) ∙ sym (ap (given_sets c.args.unrolled.now) c.in-Contract.is)

pub returns-in_default : goal.returns-in_default
returns-in_default c = sets_other c.args.unrolled.now c.args.deed c.in_default.not-Contract
