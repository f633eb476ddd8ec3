use Rattle.std.proofs.Common.{◌≡◌, ℕ, ◌+◌, ◌≤◌, List, None, Some, ap, sym, ◌∙◌, arith, length, subst}
use Rattle.word_spec.specs.State.{Written}
use Rattle.word_spec.specs.Texts.{split_lines}
use Rattle.machine_spec.specs.StateText.{Layout, StateIs, Told, state_of}
use Rattle.frame_texts_spec.specs.FrameTexts.{FramedEnding}
use Rattle.start_value.specs.Starts.{layout_of, written_of}
use Rattle.state_text.specs.Starts.{text_of}
use Rattle.state_text.specs.Readings.{IsRefusedBy}
use Rattle.frame_text.specs.Texts.{framed_ending_of}
use Rattle.frame_text.specs.Readings.{begun_but, head_part_told, line_of_fault, line_of_mark, lines_of_begin, registers_told}
use Rattle.frame_text.proofs.Behind.{fault_within, head_part_by, head_part_read, refused_same}
use Rattle.frame_text.proofs.reader.read_head.Goals as goal

pub head_fault-requires-clause-room : goal.head_fault-requires-clause-room
head_fault-requires-clause-room c =
    let low : line_of_fault c.in-Err.fault ≤ length (split_lines c.deref.result.now) + 1 =
    fault_within (layout_of c.args.layout) c.deref.result.now c.in-Err.fault c.in-Err.ensures.refused in
    let few : length (split_lines c.deref.result.now) ≡ length (split_lines c.in_ok-stack.field-0.part.items) =
    ap (λ x. length (split_lines x)) c.deref.ensures.value in
    omega (arith, low, few, c.in_ok-stack.ensures.room, c.requires, c.head_lines-2.ensures, c.len.ensures, c.len-2.ensures)

pub returns-in-Err-clause-refused : goal.returns-in-Err-clause-refused
returns-in-Err-clause-refused c tests =
    let layout : Layout = layout_of c.args.layout in
    let n : FramedEnding = framed_ending_of c.args.named in
    let w : Written = written_of c.args.start in
    let stack : List ℕ = c.in_ok-stack.field-0.stack.items in
    let before : ℕ = c.head_lines-2.result + 1 + c.len.result + c.len-2.result in
    let told : Told = state_of layout tests.kept c.in_ok-stack.field-0.part.items in
    let place : before ≡ lines_of_begin layout w.bytes stack = omega (arith, c.head_lines-2.ensures, c.len.ensures, c.len-2.ensures) in
    refused_same layout tests (head_part_told layout tests n w c.args.at (split_lines c.args.text.now))
    (begun_but layout tests w.bytes c.args.at stack (registers_told n w c.args.at stack before c.in_ok-stack.field-0.closed told)) c.head_fault.result
    (head_part_by layout tests n w c.args.at (split_lines c.args.text.now) stack before c.in_ok-stack.field-0.closed told
    (c.in_ok-stack.ensures.told tests n w c.args.at (line_of_mark layout w.bytes)) place)
    (c.head_fault.ensures layout tests n w c.in_ok-stack.field-0.closed told place
    (subst (λ (x : List ℕ). IsRefusedBy tests.kept layout (state_of layout tests.kept x) c.in-Err.fault) c.deref.ensures.value
    (c.in-Err.ensures.refused_known tests.kept)))

pub returns-in-None-clause-told : goal.returns-in-None-clause-told
returns-in-None-clause-told c tests =
    let layout : Layout = layout_of c.args.layout in
    let n : FramedEnding = framed_ending_of c.args.named in
    let w : Written = written_of c.args.start in
    let stack : List ℕ = c.in_ok-stack.field-0.stack.items in
    let before : ℕ = c.head_lines-2.result + 1 + c.len.result + c.len-2.result in
    let told : Told = state_of layout tests.kept c.in_ok-stack.field-0.part.items in
    let place : before ≡ lines_of_begin layout w.bytes stack = omega (arith, c.head_lines-2.ensures, c.len.ensures, c.len-2.ensures) in
    head_part_read layout tests n w c.args.at (split_lines c.args.text.now) stack before c.in_ok-stack.field-0.closed None
    c.in-Ok.head.start.bytes.items told (StateIs (text_of c.in-Ok.head))
    (c.in_ok-stack.ensures.told tests n w c.args.at (line_of_mark layout w.bytes)) place
    (ap (state_of layout tests.kept) (sym c.deref.ensures.value) ∙ c.in-Ok.ensures.told_known tests.kept) c.in-None.is

pub returns-in-Some-clause-refused : goal.returns-in-Some-clause-refused
returns-in-Some-clause-refused c tests =
    let layout : Layout = layout_of c.args.layout in
    let n : FramedEnding = framed_ending_of c.args.named in
    let w : Written = written_of c.args.start in
    let stack : List ℕ = c.in_ok-stack.field-0.stack.items in
    let before : ℕ = c.head_lines-2.result + 1 + c.len.result + c.len-2.result in
    let told : Told = state_of layout tests.kept c.in_ok-stack.field-0.part.items in
    let place : before ≡ lines_of_begin layout w.bytes stack = omega (arith, c.head_lines-2.ensures, c.len.ensures, c.len-2.ensures) in
    head_part_read layout tests n w c.args.at (split_lines c.args.text.now) stack before c.in_ok-stack.field-0.closed (Some c.in-Some.count)
    c.in-Ok.head.start.bytes.items told (StateIs (text_of c.in-Ok.head))
    (c.in_ok-stack.ensures.told tests n w c.args.at (line_of_mark layout w.bytes)) place
    (ap (state_of layout tests.kept) (sym c.deref.ensures.value) ∙ c.in-Ok.ensures.told_known tests.kept) c.in-Some.is
