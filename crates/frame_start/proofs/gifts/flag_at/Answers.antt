use Rattle.std.proofs.Common.{◌∙◌}
use Rattle.clause_spec.specs.Clauses.{valuation}
use Rattle.bit_blast.proofs.InputNumbers.{bits_are}
use Rattle.frame_start.proofs.GiftInputs.{digit_is}
use Rattle.frame_start.proofs.gifts.flag_at.Goals as goal

pub returns : goal.returns
returns c x at =
    digit_is c.number_at.result (x.flags c.args.part c.args.number) c.number_at.ensures.below
    (c.number_at.ensures.value ∙ bits_are (valuation c.args.values.now) c.first_input-first.result 1
    ∙ c.first_input-first.ensures.value (valuation c.args.values.now) x at)
