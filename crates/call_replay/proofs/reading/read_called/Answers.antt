use Rattle.std.proofs.Common.{ap, length, nat_lt, refl, subst, sym, ◌∙◌}
use Rattle.std.specs.Option.{option_map}
use Rattle.std.proofs.lemmas.List.{length-map}
use Rattle.word_spec.specs.Memory.{Little}
use Rattle.word_spec.specs.Profiles.{V4}
use Rattle.machine_spec.specs.Arm.{arm}
use Rattle.frame_texts_spec.specs.CallReplays.{frame_checks}
use Rattle.frame_texts_spec.specs.CallTexts.{CallIs, CallRefused, call_text_of, frame_name}
use Rattle.frame_texts_spec.specs.FrameTexts.{no_checks}
use Rattle.frame_text.specs.Readings.{judged_head, seen_head}
use Rattle.start_value.specs.Starts.{layout_of}
use Rattle.state_text.specs.Starts.{written_head_of}
use Rattle.notes_value.specs.FrameViews.{contract_of}
use Rattle.call_text.specs.Blocks.{call_fault_of}
use Rattle.call_text.specs.Readings.{IsCalledRefused, checks_by}
use Rattle.call_text.specs.Texts.{called_ending_of, called_text_of, frame_name_of}
use Rattle.call_text.specs.declared.fault.CalledFault.{CalledFault}
use Rattle.call_replay.specs.Readings.{refusal_of, whole_by}
use Rattle.call_replay.proofs.Changes.{are_of_layout}
use Rattle.call_replay.proofs.Judged.{some_mapped, told_by}
use Rattle.call_replay.proofs.reading.read_called.Goals as goal

-- what contracts may change hangs on no machine
pub parse_called-requires : goal.parse_called-requires
parse_called-requires c =
    let w = whole_by (arm Little V4) c.args.image.now c.args.notes.now c.args.contracts.now 0 in
    are_of_layout w c.deref.result.now c.in_ok-changes.changes.items c.deref.ensures.value c.in_ok-changes.ensures (layout_of c.args.layout)
    (λ f. no_checks) (c.requires (arm Little V4) 0)

pub returns-in-None : goal.returns-in-None
returns-in-None c m entry returns =
    let w = whole_by m c.args.image.now c.args.notes.now c.args.contracts.now entry in
    let f = frame_name (called_ending_of c.in-Ok.read.named) in
    let head = option_map judged_head (option_map written_head_of c.in-Ok.read.head) in
    let told = CallIs (called_text_of c.in-Ok.read) in
    told_by (layout_of c.args.layout) w refl returns c.deref.result.now c.in_ok-changes.changes.items c.deref.ensures.value c.in_ok-changes.ensures
    c.args.text.now f (frame_name_of c.frame.result) c.in-Ok.read.start.bytes.items c.deref-in-Ok.result.now head told told
    (nat_lt c.rank_of.result (length c.args.contracts.now)) c.is_some-has_head.result c.rank_of.result
    (c.in-Ok.ensures.told_by (frame_checks w returns)) c.frame.ensures (c.rank_of.ensures.rank w.program)
    (ap (nat_lt c.rank_of.result) (sym (length-map c.args.contracts.now contract_of)))
    (some_mapped judged_head (option_map written_head_of c.in-Ok.read.head) ∙ some_mapped written_head_of c.in-Ok.read.head
    ∙ sym c.is_some-has_head.ensures) c.deref-in-Ok.ensures.value (c.in-None.ensures m entry (frame_checks w returns f) head told)

pub returns-in-Ok : goal.returns-in-Ok
returns-in-Ok c m entry returns =
    let w = whole_by m c.args.image.now c.args.notes.now c.args.contracts.now entry in
    let f = frame_name (called_ending_of c.in-Ok.read.named) in
    let head = option_map judged_head (option_map written_head_of c.in-Ok.read.head) in
    let told = CallIs (called_text_of c.in-Ok.read) in
    told_by (layout_of c.args.layout) w refl returns c.deref.result.now c.in_ok-changes.changes.items c.deref.ensures.value c.in_ok-changes.ensures
    c.args.text.now f (frame_name_of c.frame.result) c.in-Ok.read.start.bytes.items c.deref-in-Ok.result.now head told
    (refusal_of c.in-Some.refusal) (nat_lt c.rank_of.result (length c.args.contracts.now)) c.is_some-has_head.result c.rank_of.result
    (c.in-Ok.ensures.told_by (frame_checks w returns)) c.frame.ensures (c.rank_of.ensures.rank w.program)
    (ap (nat_lt c.rank_of.result) (sym (length-map c.args.contracts.now contract_of)))
    (some_mapped judged_head (option_map written_head_of c.in-Ok.read.head) ∙ some_mapped written_head_of c.in-Ok.read.head
    ∙ sym c.is_some-has_head.ensures) c.deref-in-Ok.ensures.value (c.in-Some.ensures m entry (frame_checks w returns f) head told)

pub returns-in-None-refused_line : goal.returns-in-None-refused_line
returns-in-None-refused_line c m entry returns =
    let w = whole_by m c.args.image.now c.args.notes.now c.args.contracts.now entry in
    let f = frame_name_of c.in-Err-Refused.frame in
    let head = option_map seen_head c.in-Err-Refused.seen.head in
    let told = CallRefused c.in-Err-Refused.line (call_fault_of c.in-Err-Refused.kind) in
    told_by (layout_of c.args.layout) w refl returns c.deref.result.now c.in_ok-changes.changes.items c.deref.ensures.value c.in_ok-changes.ensures
    c.args.text.now f f c.in-Err-Refused.seen.bytes.items c.deref-in-Err-Refused.result.now head told told
    (nat_lt c.rank_of-in-Err-Refused.result (length c.args.contracts.now))
    c.is_some-has_head-in-Err-Refused.result c.rank_of-in-Err-Refused.result
    (subst (λ (e : CalledFault). IsCalledRefused (layout_of c.args.layout) (frame_checks w returns)
    (call_text_of (layout_of c.args.layout) (checks_by (frame_checks w returns) c.deref.result.now) c.args.text.now) e) c.in-Err-Refused.field-0-is
    (c.in-Err-Refused.ensures.refused_by (frame_checks w returns))) refl (c.rank_of-in-Err-Refused.ensures.rank w.program)
    (ap (nat_lt c.rank_of-in-Err-Refused.result) (sym (length-map c.args.contracts.now contract_of)))
    (some_mapped seen_head c.in-Err-Refused.seen.head ∙ sym c.is_some-has_head-in-Err-Refused.ensures) c.deref-in-Err-Refused.ensures.value
    (c.in-None-refused_line.ensures m entry (frame_checks w returns f) head told)

pub returns-in-Err-Refused : goal.returns-in-Err-Refused
returns-in-Err-Refused c m entry returns =
    let w = whole_by m c.args.image.now c.args.notes.now c.args.contracts.now entry in
    let f = frame_name_of c.in-Err-Refused.frame in
    let head = option_map seen_head c.in-Err-Refused.seen.head in
    let told = CallRefused c.in-Err-Refused.line (call_fault_of c.in-Err-Refused.kind) in
    told_by (layout_of c.args.layout) w refl returns c.deref.result.now c.in_ok-changes.changes.items c.deref.ensures.value c.in_ok-changes.ensures
    c.args.text.now f f c.in-Err-Refused.seen.bytes.items c.deref-in-Err-Refused.result.now head told (refusal_of c.in-Some-refused_line.refusal)
    (nat_lt c.rank_of-in-Err-Refused.result (length c.args.contracts.now))
    c.is_some-has_head-in-Err-Refused.result c.rank_of-in-Err-Refused.result
    (subst (λ (e : CalledFault). IsCalledRefused (layout_of c.args.layout) (frame_checks w returns)
    (call_text_of (layout_of c.args.layout) (checks_by (frame_checks w returns) c.deref.result.now) c.args.text.now) e) c.in-Err-Refused.field-0-is
    (c.in-Err-Refused.ensures.refused_by (frame_checks w returns))) refl (c.rank_of-in-Err-Refused.ensures.rank w.program)
    (ap (nat_lt c.rank_of-in-Err-Refused.result) (sym (length-map c.args.contracts.now contract_of)))
    (some_mapped seen_head c.in-Err-Refused.seen.head ∙ sym c.is_some-has_head-in-Err-Refused.ensures) c.deref-in-Err-Refused.ensures.value
    (c.in-Some-refused_line.ensures m entry (frame_checks w returns f) head told)
