use Rattle.std.proofs.Common.{arith}
use Rattle.std.proofs.lemmas.Bool.Decides.{nat_tests}
use Rattle.passify.proofs.Outside.{all_bytes, all_escape, first_bytes, more_bytes, spans_keep}
use Rattle.passify.proofs.writing.escapes_some.Goals as goal

pub loop-number-init : goal.loop-number-init
loop-number-init c = first_bytes c.args.dag.now c.args.stored c.args.before.0 c.args.own.now c.nodes-typed.ensures.typed c.requires.before

pub loop-number-preserved : goal.loop-number-preserved
loop-number-preserved c =
    more_bytes c.args.dag.now c.loop-number.dag c.escapes.new.dag c.args.stored c.args.before.0 c.args.own.now c.loop-number.number c.loop-number.some.0
    c.in_ok-some-2.some.0 c.requires.store c.requires.own c.loop-number.invariant c.in_ok-some-2.ensures

pub returns-then-is_empty : goal.returns-then-is_empty
returns-then-is_empty c =
    all_escape c.args.dag.now c.either.new.dag c.args.stored c.args.before.0 c.args.own.now c.in_ok-some.some.0 c.requires.store
    (let is = c.is_empty.ensures in let yes = c.if-is_empty.true in grind (arith, is, yes, nat_tests)) c.in_ok-some.ensures

pub returns : goal.returns
returns c =
    all_bytes c.args.dag.now c.loop-number.dag c.args.stored c.args.before.0 c.args.own.now c.loop-number.number c.loop-number.some.0 c.nodes-typed.ensures.typed
    c.requires.store (let is = c.is_empty.ensures in let not = c.if-is_empty.false in grind (arith, is, not, nat_tests))
    (omega (arith, c.loop-number-test.false, c.loop-number.auto.number-end)) c.loop-number.invariant

pub escapes-requires-clause-own : goal.escapes-requires-clause-own
escapes-requires-clause-own c =
    spans_keep c.args.dag.now c.loop-number.dag _ _ _ _ _ c.args.own.now c.loop-number.invariant.grew c.requires.own
