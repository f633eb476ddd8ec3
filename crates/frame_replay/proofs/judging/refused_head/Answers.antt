use Rattle.std.proofs.Common.{◌+◌, ◌-◌, ap, sym, ◌∙◌, List, length, map}
use Rattle.std.specs.Prelude.{◌==◌}
use Rattle.std.specs.List.{list_any}
use Rattle.bilv_spec.specs.Files.{program_of}
use Rattle.machine_spec.specs.StateText.{StateByteFault}
use Rattle.frame_spec.specs.Frames.{invariants_of}
use Rattle.frame_texts_spec.specs.FrameTexts.{FramedRefused, OfPart}
use Rattle.start_value.specs.Starts.{layout_of}
use Rattle.notes_value.specs.NoteViews.{assert_of, notes_of}
use Rattle.notes_value.specs.declared.notes.Assert.{Assert}
use Rattle.table_run.specs.FrameEnds.{frame_of}
use Rattle.frame_replay.specs.Readings.{checks_by, judged_lines}
use Rattle.frame_replay.proofs.Judged.{head_right}
use Rattle.frame_replay.proofs.judging.refused_head.Goals as goal

pub returns-in-None : goal.returns-in-None
returns-in-None c m entry told =
    let p = program_of m c.args.image.now (notes_of c.args.notes.now) entry in
    head_right (layout_of c.args.layout) (checks_by m c.args.image.now c.args.notes.now c.args.invariants.now c.args.returns.now entry) c.args.mark
    (c.args.mark + length c.args.head.stack.now + c.head_lines.result - 1) (judged_lines c.args.head) told told
    (ap (λ (list : List Assert). list_any (λ x. x.at == c.args.head.at) (invariants_of (frame_of p c.args.invariants.now) (map assert_of list)))
    (sym c.deref.ensures.value) ∙ sym (c.is_head.ensures p) ∙ c.if-not-is_head.false) (sym c.in_default.is ∙ c.bad_line.ensures)
    (ap (λ n. c.args.mark + length c.args.head.stack.now + n - 1) c.head_lines.ensures) (c.in-None.ensures told)

pub returns-in-Some-kept_line : goal.returns-in-Some-kept_line
returns-in-Some-kept_line c m entry told =
    let p = program_of m c.args.image.now (notes_of c.args.notes.now) entry in
    head_right (layout_of c.args.layout) (checks_by m c.args.image.now c.args.notes.now c.args.invariants.now c.args.returns.now entry) c.args.mark
    (c.args.mark + length c.args.head.stack.now + c.head_lines.result - 1) (judged_lines c.args.head) told
    (FramedRefused c.in-Some-kept_line.line (OfPart StateByteFault))
    (ap (λ (list : List Assert). list_any (λ x. x.at == c.args.head.at) (invariants_of (frame_of p c.args.invariants.now) (map assert_of list)))
    (sym c.deref.ensures.value) ∙ sym (c.is_head.ensures p) ∙ c.if-not-is_head.false) (sym c.in_default.is ∙ c.bad_line.ensures)
    (ap (λ n. c.args.mark + length c.args.head.stack.now + n - 1) c.head_lines.ensures) (c.in-Some-kept_line.ensures told)
