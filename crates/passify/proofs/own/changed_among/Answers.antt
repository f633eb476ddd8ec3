use Rattle.std.proofs.Common.{◌∙◌, sym, arith}
use Rattle.term_names.specs.Choices.{places}
use Rattle.passify.proofs.Changes.{among_more, among_none, among_passed, differs_at, place_at, width_at}
use Rattle.passify.proofs.own.changed_among.Goals as goal

pub loop-i-init : goal.loop-i-init
loop-i-init c =
    among_none c.args.dag.now c.args.width c.args.set c.args.first (places c.args.entry.now) (places c.args.next.now) c.args.before.0 c.nodes-typed.ensures.typed
    c.requires.before

pub loop-i-preserved-then-is_in : goal.loop-i-preserved-then-is_in
loop-i-preserved-then-is_in c =
    among_passed c.args.dag.now c.loop-i.dag c.args.width c.args.set c.args.first (places c.args.entry.now) (places c.args.next.now) c.loop-i.i c.args.before.0
    c.loop-i.some.0 c.loop-i.invariant (sym c.is_in.ensures ∙ c.if-is_in.true)

pub loop-i-preserved : goal.loop-i-preserved
loop-i-preserved c =
    let m = differs_at c.args.dag.now c.loop-i.dag c.differs.new.dag c.args.width c.args.entry.now c.args.next.now c.loop-i.i c.loop-i.some.0
    c.in_ok-some.some.0 c.loop-i-test.true c.requires.count c.in_ok-some.ensures in
    among_more c.args.dag.now c.loop-i.dag c.args.width c.args.set c.args.first (places c.args.entry.now) (places c.args.next.now) c.loop-i.i c.args.before.0
    c.loop-i.some.0 c.loop-i.invariant c.differs.new.dag c.in_ok-some.some.0
    (c.requires.entry c.loop-i.i (place_at c.args.entry.now c.loop-i.i c.loop-i-test.true))
    (c.requires.next c.loop-i.i (place_at c.args.next.now c.loop-i.i (let n = c.requires.count in let l = c.loop-i-test.true in omega (arith, n, l))))
    (sym c.is_in.ensures ∙ c.if-is_in.false) m

pub differs-requires-clause-left : goal.differs-requires-clause-left
differs-requires-clause-left c =
    width_at c.args.dag.now c.loop-i.dag _ _ _ _ _ c.args.width c.args.next.now c.loop-i.i c.loop-i.invariant.grew c.requires.next
    (let n = c.requires.count in let l = c.loop-i-test.true in omega (arith, n, l))

pub differs-requires-clause-right : goal.differs-requires-clause-right
differs-requires-clause-right c =
    width_at c.args.dag.now c.loop-i.dag _ _ _ _ _ c.args.width c.args.entry.now c.loop-i.i c.loop-i.invariant.grew c.requires.entry c.loop-i-test.true
