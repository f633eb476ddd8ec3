use Rattle.std.proofs.Common.{get_or}
use Rattle.std.proofs.lemmas.List.Elements.{Contains-get_or}
use Rattle.passify.specs.declared.spans.Span.{Span}
use Rattle.passify.proofs.Pushed.{other_default}
use Rattle.passify.proofs.Spanned.{taken_more}
use Rattle.passify.proofs.Writes.{span_keeps}
use Rattle.passify.proofs.spans.taken.Goals as goal

abbrev no_span : Span
no_span = record { guard = record { 0 = 0 }; address = record { 0 = 0 }; bytes = 0 }

pub mk-requires : goal.mk-requires
mk-requires c =
    let s : Span = get_or c.args.spans.now c.loop-i.i no_span in
    let k = span_keeps c.args.dag.now c.loop-i.dag _ _ _ _ _ s c.loop-i.invariant.grew
    (c.requires.spans s (Contains-get_or c.args.spans.now c.loop-i.i no_span c.loop-i-test.true)) in
    (k.some, c.loop-i.invariant.memory, k.address)

pub loop-i-preserved : goal.loop-i-preserved
loop-i-preserved c =
    let s : Span = get_or c.args.spans.now c.loop-i.i no_span in
    taken_more c.args.dag.now c.loop-i.dag c.mk.new.self c.args.spans.now c.loop-i.i s c.args.part c.args.memory.0 c.loop-i.memory.0 c.in_ok-memory.memory.0
    c.loop-i-test.true (other_default c.args.spans.now c.loop-i.i no_span s c.loop-i-test.true) c.nodes-typed.ensures.typed c.requires.spans c.requires.memory
    c.loop-i.invariant c.in_ok-memory.ensures
