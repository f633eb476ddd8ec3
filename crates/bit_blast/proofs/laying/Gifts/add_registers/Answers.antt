use Rattle.bit_blast.proofs.GivenInputs.{added_list}
use Rattle.bit_blast.proofs.laying.Gifts.add_registers.Goals as goal

pub returns-clause-added : goal.returns-clause-added
returns-clause-added c = added_list _ _ _ _ _ _ _ c.in_ok-places.ensures.are c.in_ok-push.ensures.items c.in_ok-places.ensures.behind
