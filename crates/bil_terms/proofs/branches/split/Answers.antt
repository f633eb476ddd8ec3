use Rattle.bil_terms.proofs.Entered.{split_made}
use Rattle.bil_terms.proofs.branches.split.Goals as goal

pub returns : goal.returns
returns c =
    split_made c.args.dag.now _ _ c.args.condition.0 c.args.live.0 c.args.bits.zero.0 _ _ c.requires.condition c.requires.live c.requires.bits.zero_bit
    c.requires.bits.zero
    c.in_ok-one.ensures c.in_ok-other.ensures
