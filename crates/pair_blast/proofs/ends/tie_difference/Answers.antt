use Rattle.pair_blast.proofs.Parts.{over_up}
use Rattle.pair_blast.proofs.ends.tie_difference.Goals as goal

pub returns-clause-over : goal.returns-clause-over
returns-clause-over c = λ o.
    (rw c.deref.ensures.value at c.in_ok-push_tie.ensures.over) _ c.in_ok-bits.ensures.within
    (over_up _ _ c.args.ties.now.items o c.in_ok-bits.ensures.grows.more)
