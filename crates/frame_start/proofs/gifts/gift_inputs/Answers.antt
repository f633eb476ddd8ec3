use Rattle.frame_start.specs.Changes.{changed_flags, changed_registers}
use Rattle.frame_start.proofs.ChangedSets.{given_low}
use Rattle.frame_start.proofs.GiftInputs.{gift_has}
use Rattle.frame_start.proofs.gifts.gift_inputs.Goals as goal

pub returns-clause-has : goal.returns-clause-has
returns-clause-has c =
    let digits = rw (c.deref.ensures.value) at c.in_ok-flags.ensures in
    gift_has c.args.places.now c.args.values.now c.args.part c.args.addresses (changed_registers c.args.changed) (changed_flags c.args.changed)
    (given_low c.args.places.now c.args.changed) _ c.in_ok-bits.bits.items c.in_ok-registers.ensures c.in_ok-bits.ensures.count c.in_ok-bits.ensures.each
    digits c.in_ok-base.ensures.each
