use Rattle.std.proofs.Common.{◌≡◌, ◌+◌, ap, sym, ◌∙◌, arith, subst, false}
use Rattle.std.specs.Prelude.{◌==◌, IfErr, IfOk}
use Rattle.word_spec.specs.Texts.{split_lines}
use Rattle.machine_spec.specs.StateText.{Layout, StateText, Told, lines_of_head, state_of}
use Rattle.frame_texts_spec.specs.FrameTexts.{Checks, FramedEnding, FramedRefused, FramedTold, HeadFault, told_mark}
use Rattle.start_value.specs.Starts.{layout_of}
use Rattle.state_text.specs.Starts.{text_of}
use Rattle.frame_text.specs.Parts.{mark_said}
use Rattle.frame_text.specs.Texts.{framed_ending_of}
use Rattle.frame_text.specs.Readings.{IsRefusedAs, IsToldAs, head_part_told, known_but}
use Rattle.frame_text.specs.declared.parts.Mark.{Mark}
use Rattle.frame_text.proofs.Behind.{marked_choices, marked_head, marked_stack, refused_same}
use Rattle.frame_text.proofs.Tests.{none_by, unchosen}
use Rattle.frame_text.proofs.reader.read_marked.Goals as goal
use Rattle.frame_text.proofs.reader.read_marked.Goals.{After-read_head}

pub returns-in-Err-clause-refused : goal.returns-in-Err-clause-refused
returns-in-Err-clause-refused c tests =
    c.entry_fault.ensures.mark (layout_of c.args.layout) tests (framed_ending_of c.args.named) c.args.line (mark_said c.args.mark)
    (split_lines c.args.rest.now) (state_of (layout_of c.args.layout) tests.known c.args.part.now) (c.in-Err.ensures.refused_known tests.known)

pub returns-in_default-clause-refused : goal.returns-in_default-clause-refused
returns-in_default-clause-refused c tests =
    let layout : Layout = layout_of c.args.layout in
    let n : FramedEnding = framed_ending_of c.args.named in
    let told : Told = state_of layout tests.known c.args.part.now in
    refused_same layout tests (told_mark layout tests n c.args.line (mark_said c.args.mark) (split_lines c.args.rest.now) told)
    (known_but tests.known (lines_of_head layout + 1) c.in-Ok.text.start.bytes.items (FramedRefused c.args.line HeadFault)) c.misplaced.result
    (marked_stack layout tests n told (text_of c.in-Ok.text) (c.in-Ok.ensures.told_known tests.known) c.args.line c.args.mark
    (split_lines c.args.rest.now) (λ a e. c.in_default.not-Head a e))
    (c.misplaced.ensures layout tests)

pub returns-then-not-is_empty-clause-refused : goal.returns-then-not-is_empty-clause-refused
returns-then-not-is_empty-clause-refused c tests =
    let layout : Layout = layout_of c.args.layout in
    let n : FramedEnding = framed_ending_of c.args.named in
    let told : Told = state_of layout tests.known c.args.part.now in
    let t : StateText = text_of c.in-Ok.text in
    refused_same layout tests (told_mark layout tests n c.args.line (mark_said c.args.mark) (split_lines c.args.rest.now) told)
    (known_but tests.known (lines_of_head layout + 1) c.in-Ok.text.start.bytes.items (FramedRefused c.args.line HeadFault))
    c.misplaced-then-not-is_empty.result
    (ap (λ (m : Mark). told_mark layout tests n c.args.line (mark_said m) (split_lines c.args.rest.now) told) c.in-Head.is
    ∙ marked_choices layout tests n told t (c.in-Ok.ensures.told_known tests.known) c.args.line c.in-Head.at (split_lines c.args.rest.now)
    (sym (none_by t.start.choices false (c.if-not-is_empty.ensures ∙ ap (λ k. k == 0) c.in-Ok.text.start.choices.ok.0))))
    (c.misplaced-then-not-is_empty.ensures layout tests)

-- what the entry part and the head part say
marked : (c : After-read_head) (tests : Checks) →
    head_part_told (layout_of c.args.layout) tests (framed_ending_of c.args.named) (text_of c.in-Ok.text).start c.in-Head.at (split_lines c.args.rest.now)
    ≡ told_mark (layout_of c.args.layout) tests (framed_ending_of c.args.named) c.args.line (mark_said c.args.mark) (split_lines c.args.rest.now)
    (state_of (layout_of c.args.layout) tests.known c.args.part.now)
marked c tests =
    let layout : Layout = layout_of c.args.layout in
    let n : FramedEnding = framed_ending_of c.args.named in
    let told : Told = state_of layout tests.known c.args.part.now in
    let t : StateText = text_of c.in-Ok.text in
    let placed = unchosen layout (λ a. false) c.args.part.now t c.in-Ok.text.start.choices.len c.in-Ok.ensures.told c.if-not-is_empty.ensures
    c.in-Ok.text.start.choices.ok.0 in
    sym (ap (λ (m : Mark). told_mark layout tests n c.args.line (mark_said m) (split_lines c.args.rest.now) told) c.in-Head.is
    ∙ marked_head layout tests n told t (c.in-Ok.ensures.told_known tests.known) c.args.line c.in-Head.at (split_lines c.args.rest.now) placed.0
    (c.requires.line ∙ placed.1))

pub read_head-requires : goal.read_head-requires
read_head-requires c =
    let placed = unchosen (layout_of c.args.layout) (λ a. false) c.args.part.now (text_of c.in-Ok.text) c.in-Ok.text.start.choices.len
    c.in-Ok.ensures.told c.if-not-is_empty.ensures c.in-Ok.text.start.choices.ok.0 in omega (arith, c.requires.line, c.requires.room, placed.1)

pub returns-clause-told : goal.returns-clause-told
returns-clause-told c tests =
    subst (λ (x : FramedTold). IfOk c.read_head.result (IsToldAs (layout_of c.args.layout) tests x)) (marked c tests) (c.read_head.ensures.told tests)

pub returns-clause-refused : goal.returns-clause-refused
returns-clause-refused c tests =
    subst (λ (x : FramedTold). IfErr c.read_head.result (IsRefusedAs (layout_of c.args.layout) tests x)) (marked c tests) (c.read_head.ensures.refused tests)
