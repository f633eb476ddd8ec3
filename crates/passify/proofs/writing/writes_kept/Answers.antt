use Rattle.std.proofs.Common.{get_or, map}
use Rattle.passify.specs.declared.spans.Span.{Span}
use Rattle.question_form.specs.Views.{kept_of}
use Rattle.passify.proofs.Pushed.{other_default}
use Rattle.passify.proofs.Writes.{Touches, by_count, has_at, span_keeps, writes_all, writes_more, writes_none}
use Rattle.passify.proofs.writing.writes_kept.Goals as goal

abbrev no_store : Span
no_store = record { guard = record { 0 = 0 }; address = record { 0 = 0 }; bytes = 0 }

pub loop-i-init : goal.loop-i-init
loop-i-init c = writes_none c.args.dag.now c.constant.new.dag c.in_ok-some.some.0 (map kept_of c.args.kept.now) c.in_ok-some.ensures

pub touches_some-requires-clause-store : goal.touches_some-requires-clause-store
touches_some-requires-clause-store c =
    let s : Span = get_or c.args.spans.now c.loop-i.i no_store in
    span_keeps c.args.dag.now c.loop-i.dag _ _ _ _ _ s c.loop-i.invariant.grew
    (c.requires.spans s (has_at c.args.spans.now c.loop-i.i s c.loop-i-test.true (other_default c.args.spans.now c.loop-i.i no_store s c.loop-i-test.true)))

pub loop-i-preserved : goal.loop-i-preserved
loop-i-preserved c =
    let s : Span = get_or c.args.spans.now c.loop-i.i no_store in
    let at = other_default c.args.spans.now c.loop-i.i no_store s c.loop-i-test.true in
    writes_more c.args.dag.now c.loop-i.dag c.touches_some.new.dag c.args.spans.now
    (map kept_of c.args.kept.now) c.loop-i.i s c.loop-i.some.0 c.in_ok-some-2.some.0
    c.loop-i-test.true at
    (c.requires.spans s (has_at c.args.spans.now c.loop-i.i s c.loop-i-test.true at)) c.nodes-typed.ensures.typed c.loop-i.invariant
    (by_count c.loop-i.dag c.touches_some.new.dag c.args.kept.now c.in_ok-some-2.some.0
    (Touches c.loop-i.dag c.touches_some.new.dag s (map kept_of c.args.kept.now) c.loop-i.some.0 c.in_ok-some-2.some.0) c.in_ok-some-2.ensures)

pub returns : goal.returns
returns c = writes_all c.args.dag.now c.loop-i.dag c.args.spans.now
    (map kept_of c.args.kept.now) c.loop-i.i c.loop-i.some.0 c.loop-i-test.false c.loop-i.auto.i-end c.loop-i.invariant
