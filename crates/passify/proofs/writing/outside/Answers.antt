use Rattle.std.proofs.Common.{get_or}
use Rattle.passify.specs.declared.spans.Span.{Span}
use Rattle.std.proofs.lemmas.List.Elements.{Contains-get_or}
use Rattle.passify.proofs.Pushed.{other_default}
use Rattle.passify.proofs.Outside.{outside_all, outside_more, outside_none, spans_keep}
use Rattle.passify.proofs.writing.outside.Goals as goal

abbrev no_span : Span
no_span = record { guard = record { 0 = 0 }; address = record { 0 = 0 }; bytes = 0 }

pub loop-i-init : goal.loop-i-init
loop-i-init c = outside_none c.args.dag.now c.args.before.0 c.args.own.now c.nodes-typed.ensures.typed c.requires.before

pub loop-i-preserved : goal.loop-i-preserved
loop-i-preserved c =
    let s : Span = get_or c.args.spans.now c.loop-i.i no_span in
    outside_more c.args.dag.now c.loop-i.dag c.escapes_some.new.dag c.args.before.0 c.args.spans.now c.args.own.now c.loop-i.i s c.loop-i.some.0
    c.in_ok-some.some.0 c.loop-i-test.true (other_default c.args.spans.now c.loop-i.i no_span s c.loop-i-test.true) c.nodes-typed.ensures.typed c.requires.spans
    c.requires.own c.loop-i.invariant c.in_ok-some.ensures

pub returns : goal.returns
returns c =
    outside_all c.args.dag.now c.loop-i.dag c.args.before.0 c.args.spans.now c.args.own.now c.loop-i.i c.loop-i.some.0 c.loop-i-test.false c.loop-i.auto.i-end
    c.loop-i.invariant

pub escapes_some-requires-clause-store : goal.escapes_some-requires-clause-store
escapes_some-requires-clause-store c =
    spans_keep c.args.dag.now c.loop-i.dag _ _ _ _ _ c.args.spans.now c.loop-i.invariant.grew c.requires.spans
    (get_or c.args.spans.now c.loop-i.i no_span) (Contains-get_or c.args.spans.now c.loop-i.i no_span c.loop-i-test.true)

pub escapes_some-requires-clause-own : goal.escapes_some-requires-clause-own
escapes_some-requires-clause-own c =
    spans_keep c.args.dag.now c.loop-i.dag _ _ _ _ _ c.args.own.now c.loop-i.invariant.grew c.requires.own
