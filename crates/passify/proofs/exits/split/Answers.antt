use Rattle.passify.proofs.Tried.{split_made}
use Rattle.passify.proofs.exits.split.Goals as goal

pub returns : goal.returns
returns c =
    split_made c.args.dag.now c.both.new.dag c.turned.new.dag c.both-2.new.dag c.args.rest.0 c.args.bit.0 c.in_ok-on.on.0 c.in_ok-missed.missed.0
    c.in_ok-off.off.0 c.requires.rest c.requires.bit
    c.in_ok-on.ensures c.in_ok-missed.ensures c.in_ok-off.ensures
