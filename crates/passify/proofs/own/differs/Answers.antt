use Rattle.passify.proofs.Changes.{differs_made}
use Rattle.passify.proofs.own.differs.Goals as goal

pub returns : goal.returns
returns c =
    differs_made c.args.dag.now c.mk.new.self c.either.new.dag c.args.width c.args.left.0 c.args.right.0 c.args.before.0 c.in_ok-bit.bit.0 c.in_ok-some.some.0
    c.requires.before c.in_ok-bit.ensures c.in_ok-some.ensures
