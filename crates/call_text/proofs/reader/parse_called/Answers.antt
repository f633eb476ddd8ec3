use Rattle.std.proofs.Common.{◌≡◌, None, Some, ap, sym, ◌∙◌, length, subst}
use Rattle.std.specs.Prelude.{IfErr, IfOk}
use Rattle.std.specs.Option.{option_map}
use Rattle.word_spec.specs.Texts.{split_lines}
use Rattle.machine_spec.specs.StateText.{StateLineFault, StateRegisterFault}
use Rattle.frame_texts_spec.specs.FrameTexts.{Checks, OfPart, no_checks}
use Rattle.frame_texts_spec.specs.CallTexts.{CallRefused, CallTold, FrameName, OfFramed, body_of, call_text_of, told_after}
use Rattle.start_value.specs.Starts.{layout_of}
use Rattle.state_text.proofs.Keeping.{is_nothing}
use Rattle.call_text.specs.Readings.{IsCalledAs, IsCalledRefused, checks_by}
use Rattle.call_text.specs.Texts.{called_ending_of}
use Rattle.call_text.proofs.Reading.{all_unrefused, all_untold, called_empty, called_first, refused_same, unrefused}
use Rattle.call_text.proofs.reader.parse_called.Goals as goal
use Rattle.call_text.proofs.reader.parse_called.Goals.{After-read_body}

pub returns-then-is_empty-clause-refused_by : goal.returns-then-is_empty-clause-refused_by
returns-then-is_empty-clause-refused_by c frames =
    refused_same (layout_of c.args.layout) frames (call_text_of (layout_of c.args.layout) (checks_by frames c.args.contracts.now) c.args.text.now)
    (CallRefused 1 (OfFramed (OfPart StateRegisterFault))) c.unread.result
    (called_empty (layout_of c.args.layout) (checks_by frames c.args.contracts.now) c.args.text.now
    (is_nothing c.is_empty.result (length c.args.text.now) c.is_empty.ensures c.if-is_empty.true))
    (c.unread.ensures (layout_of c.args.layout) frames)

pub returns-then-is_empty-clause-refused : goal.returns-then-is_empty-clause-refused
returns-then-is_empty-clause-refused c =
    unrefused (layout_of c.args.layout) (call_text_of (layout_of c.args.layout) (checks_by (λ frame. no_checks) c.args.contracts.now) c.args.text.now)
    c.unread.result (returns-then-is_empty-clause-refused_by c (λ frame. no_checks))

pub returns-in_default-clause-refused_by : goal.returns-in_default-clause-refused_by
returns-in_default-clause-refused_by c frames =
    refused_same (layout_of c.args.layout) frames (call_text_of (layout_of c.args.layout) (checks_by frames c.args.contracts.now) c.args.text.now)
    (CallRefused 1 (OfFramed (OfPart StateLineFault))) c.unread-in_default.result
    (sym (called_first (layout_of c.args.layout) (checks_by frames c.args.contracts.now) c.args.text.now c.first_line.result.0.now c.first_line.result.1.now
    None c.first_line.ensures.line (sym (ap (option_map called_ending_of) c.in_default.is) ∙ c.in_ok-named.ensures)))
    (c.unread-in_default.ensures (layout_of c.args.layout) frames)

pub returns-in_default-clause-refused : goal.returns-in_default-clause-refused
returns-in_default-clause-refused c =
    unrefused (layout_of c.args.layout) (call_text_of (layout_of c.args.layout) (checks_by (λ frame. no_checks) c.args.contracts.now) c.args.text.now)
    c.unread-in_default.result (returns-in_default-clause-refused_by c (λ frame. no_checks))

-- by the first line
first : (c : After-read_body) (frames : FrameName → Checks) →
    told_after (layout_of c.args.layout) (checks_by frames c.args.contracts.now) (Some (called_ending_of c.in-Some.named))
    (body_of (split_lines c.first_line.result.1.now))
    ≡ call_text_of (layout_of c.args.layout) (checks_by frames c.args.contracts.now) c.args.text.now
first c frames =
    called_first (layout_of c.args.layout) (checks_by frames c.args.contracts.now) c.args.text.now c.first_line.result.0.now c.first_line.result.1.now
    (Some (called_ending_of c.in-Some.named)) c.first_line.ensures.line
    (sym (ap (option_map called_ending_of) c.in-Some.is) ∙ c.in_ok-named.ensures)

pub returns-clause-told_by : goal.returns-clause-told_by
returns-clause-told_by c frames =
    subst (λ (x : CallTold). IfOk c.read_body.result (IsCalledAs (layout_of c.args.layout) frames x)) (first c frames) (c.read_body.ensures.told frames)

pub returns-clause-refused_by : goal.returns-clause-refused_by
returns-clause-refused_by c frames =
    subst (λ (x : CallTold). IfErr c.read_body.result (IsCalledRefused (layout_of c.args.layout) frames x)) (first c frames)
    (c.read_body.ensures.refused frames)

pub returns-clause-told : goal.returns-clause-told
returns-clause-told c =
    all_untold (layout_of c.args.layout) (call_text_of (layout_of c.args.layout) (checks_by (λ frame. no_checks) c.args.contracts.now) c.args.text.now)
    c.read_body.result (returns-clause-told_by c (λ frame. no_checks))

pub returns-clause-refused : goal.returns-clause-refused
returns-clause-refused c =
    all_unrefused (layout_of c.args.layout) (call_text_of (layout_of c.args.layout) (checks_by (λ frame. no_checks) c.args.contracts.now) c.args.text.now)
    c.read_body.result (returns-clause-refused_by c (λ frame. no_checks))
