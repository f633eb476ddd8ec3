use Rattle.passify.proofs.GoneOn.{unaligned_made}
use Rattle.passify.proofs.leaving.unaligned.Goals as goal

pub returns : goal.returns
returns c =
    unaligned_made c.args.narrow _ c.from-hi.ensures c.args.dag.now c.mk.new.self c.keep.new.self c.mk-2.new.self c.args.address.0
    c.in_ok-low.low.0 c.in_ok-zero.zero.0 c.in_ok-bit.bit.0 c.in_ok-low.ensures c.in_ok-zero.ensures c.in_ok-bit.ensures
