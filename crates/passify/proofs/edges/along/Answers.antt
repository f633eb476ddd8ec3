use Rattle.passify.proofs.Along.{edge_bit}
use Rattle.passify.proofs.edges.along.Goals as goal

pub returns : goal.returns
returns c =
    edge_bit c.args.dag.now c.address_of.new.dag c.mk.new.self c.way.new.dag c.args.edge c.args.jumped.0 c.args.next.0 c.args.link.0 c.in_ok-address.address.0
    c.in_ok-same.same.0 c.in_ok-bit.bit.0 c.requires.jumped c.requires.next c.requires.link
    c.in_ok-address.ensures c.in_ok-same.ensures c.in_ok-bit.ensures
