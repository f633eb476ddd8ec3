use Rattle.std.proofs.Common.{◌∙◌, subst, sym}
use Rattle.std.specs.Prelude.{option_map}
use Rattle.start_value.specs.Starts.{layout_of}
use Rattle.frame_texts_spec.specs.CallReplays.{call_checks, frame_checks}
use Rattle.frame_texts_spec.specs.CallTexts.{CallIs, CallRefused, OfFramed, call_text_of, frame_name}
use Rattle.frame_text.specs.Readings.{frame_fault_of, judged_head, seen_head}
use Rattle.state_text.specs.Starts.{written_head_of}
use Rattle.call_text.specs.Blocks.{call_fault_of}
use Rattle.call_text.specs.Readings.{IsCalledRefused, passed}
use Rattle.call_text.specs.Texts.{called_text_of, frame_name_of}
use Rattle.call_text.specs.declared.fault.CalledFault.{CalledFault}
use Rattle.frame_replay.specs.Readings.{checks_by, is_among, judged_lines, whole_by}
use Rattle.frame_replay.proofs.Judged.{called_left, none_refuses, one_refuses, one_test_of, read_as, seen_as}
use Rattle.frame_replay.proofs.reading.read_framed.Goals as goal

-- without contracts nothing is asked
pub parse_called-requires : goal.parse_called-requires
parse_called-requires c a x is = absurd (let no : ⊥ = cc in no)

pub returns-in-None : goal.returns-in-None
returns-in-None c m entry =
    let layout = layout_of c.args.layout in
    let w = whole_by m c.args.image.now c.args.notes.now c.args.invariants.now entry in
    let frames = frame_checks w (is_among c.args.returns.now) in
    let checks = checks_by m c.args.image.now c.args.notes.now c.args.invariants.now c.args.returns.now entry in
    let t = called_text_of c.in-Ok.segment in
    let head = option_map judged_lines c.lines_of-head.result in
    called_left layout (frames (frame_name t.named)) checks c.deref.result.now c.in-Ok.segment.start.bytes.items head
    (option_map judged_head (option_map written_head_of c.in-Ok.segment.head)) _ (CallIs t) (CallIs t)
    (one_test_of m c.args.image.now c.args.notes.now c.args.invariants.now c.args.returns.now entry (frame_name t.named)) c.deref.ensures.value
    (c.lines_of-head.ensures ∙ read_as c.as_ref.result c.in-Ok.segment.head c.as_ref.ensures.value) (c.in-Ok.ensures.told_by frames)
    (none_refuses layout checks c.deref.result.now head (CallIs t) (c.in-None.ensures m entry passed))

pub returns-in-Ok : goal.returns-in-Ok
returns-in-Ok c m entry =
    let layout = layout_of c.args.layout in
    let w = whole_by m c.args.image.now c.args.notes.now c.args.invariants.now entry in
    let frames = frame_checks w (is_among c.args.returns.now) in
    let checks = checks_by m c.args.image.now c.args.notes.now c.args.invariants.now c.args.returns.now entry in
    let t = called_text_of c.in-Ok.segment in
    let head = option_map judged_lines c.lines_of-head.result in
    called_left layout (frames (frame_name t.named)) checks c.deref.result.now c.in-Ok.segment.start.bytes.items head
    (option_map judged_head (option_map written_head_of c.in-Ok.segment.head)) _ (CallIs t) (CallRefused c.in-Some.refusal.line (OfFramed (frame_fault_of c.in-Some.refusal.kind)))
    (one_test_of m c.args.image.now c.args.notes.now c.args.invariants.now c.args.returns.now entry (frame_name t.named)) c.deref.ensures.value
    (c.lines_of-head.ensures ∙ read_as c.as_ref.result c.in-Ok.segment.head c.as_ref.ensures.value) (c.in-Ok.ensures.told_by frames)
    (one_refuses layout checks c.deref.result.now head (CallIs t) c.in-Some.refusal (c.in-Some.ensures m entry passed))

pub returns-in-None-refused_line : goal.returns-in-None-refused_line
returns-in-None-refused_line c m entry =
    let layout = layout_of c.args.layout in
    let w = whole_by m c.args.image.now c.args.notes.now c.args.invariants.now entry in
    let frames = frame_checks w (is_among c.args.returns.now) in
    let checks = checks_by m c.args.image.now c.args.notes.now c.args.invariants.now c.args.returns.now entry in
    let f = frame_name_of c.in-Err-Refused.field-0-2 in
    let told = CallRefused c.in-Err-Refused.line (call_fault_of c.in-Err-Refused.kind) in
    let head = option_map judged_lines c.lines_seen-head.result in
    called_left layout (frames f) checks c.deref-in-Err-Refused.result.now c.in-Err-Refused.seen.bytes.items head
    (option_map seen_head c.in-Err-Refused.seen.head) _ told _
    (one_test_of m c.args.image.now c.args.notes.now c.args.invariants.now c.args.returns.now entry f) c.deref-in-Err-Refused.ensures.value
    (c.lines_seen-head.ensures ∙ seen_as c.as_ref-in-Err-Refused.result c.in-Err-Refused.seen.head c.as_ref-in-Err-Refused.ensures.value)
    (subst (λ (e : CalledFault). IsCalledRefused layout frames (call_text_of layout (call_checks w (is_among c.args.returns.now)) c.args.text.now) e)
    c.in-Err-Refused.field-0-is (c.in-Err-Refused.ensures.refused_by frames))
    (none_refuses layout checks c.deref-in-Err-Refused.result.now head told (c.in-None-refused_line.ensures m entry passed) ∙ sym c.refused_at.ensures)

pub returns-in-Err-Refused : goal.returns-in-Err-Refused
returns-in-Err-Refused c m entry =
    let layout = layout_of c.args.layout in
    let w = whole_by m c.args.image.now c.args.notes.now c.args.invariants.now entry in
    let frames = frame_checks w (is_among c.args.returns.now) in
    let checks = checks_by m c.args.image.now c.args.notes.now c.args.invariants.now c.args.returns.now entry in
    let f = frame_name_of c.in-Err-Refused.field-0-2 in
    let told = CallRefused c.in-Err-Refused.line (call_fault_of c.in-Err-Refused.kind) in
    let head = option_map judged_lines c.lines_seen-head.result in
    called_left layout (frames f) checks c.deref-in-Err-Refused.result.now c.in-Err-Refused.seen.bytes.items head
    (option_map seen_head c.in-Err-Refused.seen.head) _ told (CallRefused c.in-Some-refused_line.refusal.line (OfFramed (frame_fault_of c.in-Some-refused_line.refusal.kind)))
    (one_test_of m c.args.image.now c.args.notes.now c.args.invariants.now c.args.returns.now entry f) c.deref-in-Err-Refused.ensures.value
    (c.lines_seen-head.ensures ∙ seen_as c.as_ref-in-Err-Refused.result c.in-Err-Refused.seen.head c.as_ref-in-Err-Refused.ensures.value)
    (subst (λ (e : CalledFault). IsCalledRefused layout frames (call_text_of layout (call_checks w (is_among c.args.returns.now)) c.args.text.now) e)
    c.in-Err-Refused.field-0-is (c.in-Err-Refused.ensures.refused_by frames))
    (one_refuses layout checks c.deref-in-Err-Refused.result.now head told c.in-Some-refused_line.refusal (c.in-Some-refused_line.ensures m entry passed))
