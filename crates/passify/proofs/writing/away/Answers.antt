use Rattle.std.proofs.Common.{get_or, arith}
use Rattle.std.proofs.lemmas.List.Elements.{Contains-get_or}
use Rattle.term_spec.specs.Terms.{ConstantNode}
use Rattle.term_dag.proofs.Growth.{grew_width, interned_grew}
use Rattle.passify.specs.declared.spans.Span.{Span}
use Rattle.passify.proofs.Pushed.{other_default}
use Rattle.passify.proofs.Outside.{away_all, away_more, away_none}
use Rattle.passify.proofs.Writes.{span_keeps}
use Rattle.passify.proofs.writing.away.Goals as goal

abbrev no_span : Span
no_span = record { guard = record { 0 = 0 }; address = record { 0 = 0 }; bytes = 0 }

pub loop-i-init : goal.loop-i-init
loop-i-init c = away_none c.args.dag.now c.args.at.0 c.args.rest.0 c.nodes-typed.ensures.typed c.requires.rest

pub loop-i-preserved : goal.loop-i-preserved
loop-i-preserved c =
    let s : Span = get_or c.args.own.now c.loop-i.i no_span in
    away_more c.args.dag.now c.loop-i.dag c.keep.new.self c.mk.new.self c.mk-in-loop-i.new.self c.both.new.dag c.args.at.0 c.args.rest.0 c.args.own.now c.loop-i.i s
    c.loop-i.left.0 c.from.result c.in_ok-count.count.0 c.in_ok-distance.distance.0 c.in_ok-past.past.0 c.in_ok-left.left.0 c.loop-i-test.true
    (other_default c.args.own.now c.loop-i.i no_span s c.loop-i-test.true) c.nodes-typed.ensures.typed c.requires.own c.requires.at c.from.ensures c.loop-i.invariant
    c.in_ok-count.ensures c.in_ok-distance.ensures c.in_ok-past.ensures c.in_ok-left.ensures

pub returns : goal.returns
returns c =
    away_all c.args.dag.now c.loop-i.dag c.args.at.0 c.args.rest.0 c.args.own.now c.loop-i.i c.loop-i.left.0 c.loop-i-test.false c.loop-i.auto.i-end
    c.loop-i.invariant

pub mk-requires : goal.mk-requires
mk-requires c =
    let s : Span = get_or c.args.own.now c.loop-i.i no_span in
    let g = interned_grew c.loop-i.dag c.keep.new.self (ConstantNode 32 c.from.result) c.in_ok-count.count.0 c.in_ok-count.ensures in (
      (omega arith, omega arith),
      grew_width c.loop-i.dag c.keep.new.self 0 0 0 0 1 32 c.args.at.0 g
          (grew_width c.args.dag.now c.loop-i.dag _ _ _ _ _ 32 c.args.at.0 c.loop-i.invariant.grew c.requires.at),
      (span_keeps c.loop-i.dag c.keep.new.self 0 0 0 0 1 s g (span_keeps c.args.dag.now c.loop-i.dag _ _ _ _ _ s c.loop-i.invariant.grew
          (c.requires.own s (Contains-get_or c.args.own.now c.loop-i.i no_span c.loop-i-test.true)))).address,
    )
