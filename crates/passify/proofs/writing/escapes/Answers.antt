use Rattle.term_spec.specs.Terms.{BinaryNode, ConstantNode}
use Rattle.term_dag.proofs.Growth.{interned_grew, made_grew}
use Rattle.machine_spec.specs.Bil.{Plus}
use Rattle.passify.proofs.Outside.{escapes_made, spans_keep}
use Rattle.passify.proofs.writing.escapes.Goals as goal

pub returns : goal.returns
returns c =
    escapes_made c.args.dag.now c.keep.new.self c.mk.new.self c.away.new.dag c.either.new.dag c.args.stored c.from.result c.args.number
    c.in_ok-number.number.0 c.in_ok-at.at.0 c.in_ok-bit.bit.0 c.args.before.0 c.in_ok-some.some.0 c.args.own.now c.nodes-typed.ensures.typed c.requires.store c.requires.own
    c.requires.before c.from.ensures c.in_ok-number.ensures c.in_ok-at.ensures c.in_ok-bit.ensures c.in_ok-some.ensures

pub away-requires-clause-own : goal.away-requires-clause-own
away-requires-clause-own c =
    spans_keep c.keep.new.self c.mk.new.self _ _ _ _ _ c.args.own.now
    (made_grew c.keep.new.self c.mk.new.self (BinaryNode Plus 32 c.args.stored.address.0 c.in_ok-number.number.0) c.in_ok-at.at.0 c.in_ok-at.ensures)
    (spans_keep c.args.dag.now c.keep.new.self _ _ _ _ _ c.args.own.now
    (interned_grew c.args.dag.now c.keep.new.self (ConstantNode 32 c.from.result) c.in_ok-number.number.0 c.in_ok-number.ensures) c.requires.own)
