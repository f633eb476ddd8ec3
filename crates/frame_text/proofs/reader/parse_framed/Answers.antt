use Rattle.std.proofs.Common.{◌≡◌, None, Some, ap, sym, ◌∙◌, length, subst}
use Rattle.std.specs.Prelude.{IfErr, IfOk}
use Rattle.std.specs.Option.{option_map}
use Rattle.word_spec.specs.Texts.{split_lines}
use Rattle.machine_spec.specs.StateText.{StateLineFault, StateRegisterFault}
use Rattle.frame_texts_spec.specs.FrameTexts.{Checks, FramedRefused, FramedTold, OfPart, framed_of, no_checks, part_of, told_behind}
use Rattle.start_value.specs.Starts.{layout_of}
use Rattle.state_text.proofs.Keeping.{is_nothing}
use Rattle.frame_text.specs.Texts.{framed_ending_of}
use Rattle.frame_text.specs.Readings.{IsRefusedAs, IsToldAs}
use Rattle.frame_text.proofs.Behind.{refused_same}
use Rattle.frame_text.proofs.Whole.{all_unrefused, all_untold, framed_empty, framed_first, unrefused}
use Rattle.frame_text.proofs.reader.parse_framed.Goals as goal
use Rattle.frame_text.proofs.reader.parse_framed.Goals.{After-read_parts}

pub returns-then-is_empty-clause-refused_by : goal.returns-then-is_empty-clause-refused_by
returns-then-is_empty-clause-refused_by c tests =
    refused_same (layout_of c.args.layout) tests (framed_of (layout_of c.args.layout) tests c.args.text.now)
    (FramedRefused 1 (OfPart StateRegisterFault)) c.unread.result
    (framed_empty (layout_of c.args.layout) tests c.args.text.now
    (is_nothing c.is_empty.result (length c.args.text.now) c.is_empty.ensures c.if-is_empty.true))
    (c.unread.ensures (layout_of c.args.layout) tests)

pub returns-then-is_empty-clause-refused : goal.returns-then-is_empty-clause-refused
returns-then-is_empty-clause-refused c =
    unrefused (layout_of c.args.layout) (framed_of (layout_of c.args.layout) no_checks c.args.text.now) c.unread.result
    (returns-then-is_empty-clause-refused_by c no_checks)

pub returns-in_default-clause-refused_by : goal.returns-in_default-clause-refused_by
returns-in_default-clause-refused_by c tests =
    refused_same (layout_of c.args.layout) tests (framed_of (layout_of c.args.layout) tests c.args.text.now)
    (FramedRefused 1 (OfPart StateLineFault)) c.unread-in_default.result
    (sym (framed_first (layout_of c.args.layout) tests c.args.text.now c.first_line.result.0.now c.first_line.result.1.now None c.first_line.ensures.line
    (sym (ap (option_map framed_ending_of) c.in_default.is) ∙ c.in_ok-named.ensures)))
    (c.unread-in_default.ensures (layout_of c.args.layout) tests)

pub returns-in_default-clause-refused : goal.returns-in_default-clause-refused
returns-in_default-clause-refused c =
    unrefused (layout_of c.args.layout) (framed_of (layout_of c.args.layout) no_checks c.args.text.now) c.unread-in_default.result
    (returns-in_default-clause-refused_by c no_checks)

-- by the first line
first : (c : After-read_parts) (tests : Checks) →
    told_behind (layout_of c.args.layout) tests (Some (framed_ending_of c.in-Some.named))
    (part_of (layout_of c.args.layout) (split_lines c.first_line.result.1.now)) ≡ framed_of (layout_of c.args.layout) tests c.args.text.now
first c tests =
    framed_first (layout_of c.args.layout) tests c.args.text.now c.first_line.result.0.now c.first_line.result.1.now
    (Some (framed_ending_of c.in-Some.named)) c.first_line.ensures.line
    (sym (ap (option_map framed_ending_of) c.in-Some.is) ∙ c.in_ok-named.ensures)

pub returns-clause-told_by : goal.returns-clause-told_by
returns-clause-told_by c tests =
    subst (λ (x : FramedTold). IfOk c.read_parts.result (IsToldAs (layout_of c.args.layout) tests x)) (first c tests) (c.read_parts.ensures.told tests)

pub returns-clause-refused_by : goal.returns-clause-refused_by
returns-clause-refused_by c tests =
    subst (λ (x : FramedTold). IfErr c.read_parts.result (IsRefusedAs (layout_of c.args.layout) tests x)) (first c tests) (c.read_parts.ensures.refused tests)

pub returns-clause-told : goal.returns-clause-told
returns-clause-told c =
    all_untold (layout_of c.args.layout) (framed_of (layout_of c.args.layout) no_checks c.args.text.now) c.read_parts.result
    (returns-clause-told_by c no_checks)

pub returns-clause-refused : goal.returns-clause-refused
returns-clause-refused c =
    all_unrefused (layout_of c.args.layout) (framed_of (layout_of c.args.layout) no_checks c.args.text.now) c.read_parts.result
    (returns-clause-refused_by c no_checks)
