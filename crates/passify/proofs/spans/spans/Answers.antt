use Rattle.std.proofs.Common.{◌∙◌, ap, arith, get_or}
use Rattle.std.proofs.lemmas.List.Elements.{Contains-get_or}
use Rattle.notes_value.specs.declared.notes.Writes.{Writes}
use Rattle.passify.specs.declared.spans.Span.{Span}
use Rattle.passify.proofs.Pushed.{other_default}
use Rattle.passify.proofs.Spanned.{spans_push}
use Rattle.passify.proofs.spans.spans.Goals as goal

pub loop-i-preserved : goal.loop-i-preserved
loop-i-preserved c =
    let w = get_or c.args.writes.now c.loop-i.i c.index-writes-i.result in
    let among = Contains-get_or c.args.writes.now c.loop-i.i c.index-writes-i.result c.loop-i-test.true in
    let count = ap (λ (z : Writes). z.count) (other_default c.args.writes.now c.loop-i.i c.index-writes-i-in-loop-i.result c.index-writes-i.result c.loop-i-test.true) in
    let few = c.span_from.ensures.few in
    spans_push c.args.dag.now c.loop-i.dag c.word.new.dag c.args.big c.args.now.now c.args.yes c.args.writes.now c.loop-i.i w c.loop-i.spans.items
    c.push.new.self.items c.span_from.result c.in_ok-address.address c.loop-i-test.true (ap (λ z. get_or c.args.writes.now c.loop-i.i z) c.index-writes-i.is)
    c.in_ok-push.ensures.items (ap (λ (z : Span). z.guard) c.span_from.ensures.span) (ap (λ (z : Span). z.address) c.span_from.ensures.span)
    (ap (λ (z : Span). z.bytes) c.span_from.ensures.span ∙ count) c.requires.now c.requires.yes (c.requires.some w among) (omega (arith, few, count))
    c.loop-i.invariant c.nodes-typed.ensures.typed c.in_ok-address.ensures
