use Rattle.bit_blast.proofs.Divisors.{reciprocal_found}
use Rattle.bit_blast.proofs.reciprocals.divisor_at.Goals as goal

pub returns : goal.returns
returns c = reciprocal_found c.args.factor c.args.bits c.args.place c.requires.some c.requires.more c.requires.order c.requires.few c.if-divisor-bits.false
    c.if-factor-power.false
