use Rattle.std.proofs.Common.{ap, arith, ◌∙◌}
use Rattle.std.specs.Prelude.{reverse}
use Rattle.frame_start.specs.Segments.{calls_by, written_parts}
use Rattle.program_points.specs.Tables.{stack_at}
use Rattle.question_form.specs.FrameViews.{frame_unrolled_of}
use Rattle.start_value.specs.Starts.{written_of}
use Rattle.frame_verdict.proofs.SegmentParts.{entry_shown, head_shown, listed_at}
use Rattle.frame_verdict.proofs.segments.shown_of_root.Goals as goal

pub returns-in_ok-start-in-None : goal.returns-in_ok-start-in-None
returns-in_ok-start-in-None c =
    let within = c.requires.within in
    let count = c.requires.count in
    let called = c.requires.called in
    entry_shown c.args.unrolled.now c.args.segments.now c.args.root c.index-2.result.now within c.index-2.ensures c.in_ok-calls.calls.items
    (c.in_ok-calls.ensures
    ∙ ap (calls_by (frame_unrolled_of c.args.unrolled.now) (written_parts c.args.segments.now.parts))
    (c.deref.ensures.value ∙ listed_at c.args.segments.now.calls.items c.args.root c.index.result.now (omega (arith, within, called)) c.index.ensures))
    c.in-None.is c.in_ok-start-in-None.start
    (c.in_ok-start-in-None.ensures
    ∙ ap (λ l. record (written_of c.args.segments.now.parts.entry) { choices = l })
    (c.deref-in-None.ensures.value
    ∙ listed_at c.args.segments.now.choices.items c.args.root c.index-choices.result.now (omega (arith, within, count)) c.index-choices.ensures))

pub returns-in_ok-stack_addresses-in-Some : goal.returns-in_ok-stack_addresses-in-Some
returns-in_ok-stack_addresses-in-Some c =
    let within = c.requires.within in
    let count = c.requires.count in
    let called = c.requires.called in
    head_shown c.args.unrolled.now c.args.segments.now c.args.root c.index-2.result.now within c.index-2.ensures c.in_ok-calls.calls.items
    (c.in_ok-calls.ensures
    ∙ ap (calls_by (frame_unrolled_of c.args.unrolled.now) (written_parts c.args.segments.now.parts))
    (c.deref.ensures.value ∙ listed_at c.args.segments.now.calls.items c.args.root c.index.result.now (omega (arith, within, called)) c.index.ensures))
    c.in-Some.head c.in-Some.is c.in_ok-start-in-Some.start c.in_ok-with_choices-in-Some.field-0 c.in_ok-stack_addresses-in-Some.field-0.items
    (c.in_ok-start-in-Some.ensures
    ∙ ap (λ l. record (written_of c.args.segments.now.parts.entry) { choices = l }) c.deref-in-Some.ensures.value)
    (c.in_ok-with_choices-in-Some.ensures
    ∙ ap (λ l. record (written_of c.args.segments.now.parts.head) { choices = l })
    (c.deref-in-Some-2.ensures.value
    ∙ listed_at c.args.segments.now.choices.items c.args.root c.index-choices.result.now (omega (arith, within, count)) c.index-choices.ensures))
    (c.in_ok-stack_addresses-in-Some.ensures ∙ ap (λ f. reverse (stack_at f c.in-Some.head.stack)) c.deref-in-Some-3.ensures.value)
