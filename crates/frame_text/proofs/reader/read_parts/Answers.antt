use Rattle.std.proofs.Common.{◌≡◌, ◌+◌, ◌++◌, Some, ap, sym, ◌∙◌, codes, subst}
use Rattle.std.specs.Prelude.{IfErr, IfOk}
use Rattle.std.specs.Option.{option_map}
use Rattle.word_spec.specs.Texts.{lines, split_lines}
use Rattle.machine_spec.specs.StateText.{state_of}
use Rattle.frame_texts_spec.specs.FrameTexts.{Checks, FramedTold, part_of, plain_told, told_behind, told_mark}
use Rattle.start_value.specs.Starts.{layout_of}
use Rattle.frame_text.specs.Parts.{behind_said, mark_said}
use Rattle.frame_text.specs.Texts.{framed_ending_of}
use Rattle.frame_text.specs.Readings.{IsRefusedAs, IsToldAs}
use Rattle.frame_text.proofs.Behind.{parts_closed, parts_open}
use Rattle.frame_text.proofs.PartTexts.{entry_closed, entry_count, entry_open}
use Rattle.frame_text.proofs.reader.read_parts.Goals as goal
use Rattle.frame_text.proofs.reader.read_parts.Goals.{After-drop-part-in-None, After-drop-part-2}

-- without a head part
open_part : (c : After-drop-part-in-None) (tests : Checks) →
    plain_told (framed_ending_of c.args.named) (state_of (layout_of c.args.layout) tests.known c.deref.result.now)
    ≡ told_behind (layout_of c.args.layout) tests (Some (framed_ending_of c.args.named)) (part_of (layout_of c.args.layout) (split_lines c.args.text.now))
open_part c tests =
    parts_open (layout_of c.args.layout) tests (framed_ending_of c.args.named) (split_lines c.args.text.now)
    (state_of (layout_of c.args.layout) tests.known c.deref.result.now)
    (sym c.in_ok-first.ensures.behind ∙ ap (option_map behind_said) c.in-None.is)
    (entry_open c.args.layout c.args.text.now tests.known c.deref.result.now
    (c.deref.ensures.value ∙ c.in_ok-first.ensures.text
    ∙ ap (λ l. l ++ lines (part_of (layout_of c.args.layout) (split_lines c.args.text.now)).lines) c.in_ok-part.ensures))

pub returns-in-None-clause-told : goal.returns-in-None-clause-told
returns-in-None-clause-told c tests =
    subst (λ (x : FramedTold). IfOk c.read_plain.result (IsToldAs (layout_of c.args.layout) tests x)) (open_part c tests) (c.read_plain.ensures.told tests)

pub returns-in-None-clause-refused : goal.returns-in-None-clause-refused
returns-in-None-clause-refused c tests =
    subst (λ (x : FramedTold). IfErr c.read_plain.result (IsRefusedAs (layout_of c.args.layout) tests x)) (open_part c tests)
    (c.read_plain.ensures.refused tests)

pub read_marked-requires-clause-line : goal.read_marked-requires-clause-line
read_marked-requires-clause-line c =
    ap (λ k. k + 2) c.in_ok-first.ensures.count
    ∙ sym (entry_count c.args.layout c.args.text.now c.deref-in-Some.result.now
    (c.deref-in-Some.ensures.value ∙ c.in_ok-push_text-in-Some.ensures ∙ ap (λ l. l ++ codes "end\n")
    (c.in_ok-first.ensures.text ∙ ap (λ l. l ++ lines (part_of (layout_of c.args.layout) (split_lines c.args.text.now)).lines) c.in_ok-part.ensures)))

-- with a line that begins a head part
closed_part : (c : After-drop-part-2) (tests : Checks) →
    told_mark (layout_of c.args.layout) tests (framed_ending_of c.args.named) (c.in_ok-first.first.count + 2) (mark_said c.in-Some.mark)
    (split_lines c.in-Some.rest.now) (state_of (layout_of c.args.layout) tests.known c.deref-in-Some.result.now)
    ≡ told_behind (layout_of c.args.layout) tests (Some (framed_ending_of c.args.named)) (part_of (layout_of c.args.layout) (split_lines c.args.text.now))
closed_part c tests =
    parts_closed (layout_of c.args.layout) tests (framed_ending_of c.args.named) (split_lines c.args.text.now)
    (state_of (layout_of c.args.layout) tests.known c.deref-in-Some.result.now) (c.in_ok-first.first.count + 2) (mark_said c.in-Some.mark)
    (split_lines c.in-Some.rest.now)
    (sym c.in_ok-first.ensures.behind ∙ ap (option_map behind_said) c.in-Some.is) (ap (λ k. k + 2) c.in_ok-first.ensures.count)
    (entry_closed c.args.layout c.args.text.now tests.known c.deref-in-Some.result.now
    (c.deref-in-Some.ensures.value ∙ c.in_ok-push_text-in-Some.ensures ∙ ap (λ l. l ++ codes "end\n")
    (c.in_ok-first.ensures.text ∙ ap (λ l. l ++ lines (part_of (layout_of c.args.layout) (split_lines c.args.text.now)).lines) c.in_ok-part.ensures)))

pub returns-clause-told : goal.returns-clause-told
returns-clause-told c tests =
    subst (λ (x : FramedTold). IfOk c.read_marked.result (IsToldAs (layout_of c.args.layout) tests x)) (closed_part c tests)
    (c.read_marked.ensures.told tests)

pub returns-clause-refused : goal.returns-clause-refused
returns-clause-refused c tests =
    subst (λ (x : FramedTold). IfErr c.read_marked.result (IsRefusedAs (layout_of c.args.layout) tests x)) (closed_part c tests)
    (c.read_marked.ensures.refused tests)
