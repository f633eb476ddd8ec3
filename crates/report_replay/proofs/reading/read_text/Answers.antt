use Rattle.std.proofs.Common.{◌+◌, ap, subst}
use Rattle.bilv_spec.specs.Files.{program_of}
use Rattle.bilv_spec.specs.Points.{is_known_at}
use Rattle.machine_spec.specs.StateText.{StateRefused, lines_of_head, state_of}
use Rattle.start_value.specs.Starts.{layout_of}
use Rattle.state_text.specs.Readings.{fault_of, IsRefusedBy}
use Rattle.state_text.specs.declared.state_fault.ParseFault.{ParseFault}
use Rattle.notes_value.specs.NoteViews.{notes_of}
use Rattle.report_replay.specs.Readings.{told_of}
use Rattle.report_replay.proofs.Lines.{told_left}
use Rattle.report_replay.proofs.reading.read_text.Goals as goal

pub returns-in-None-unless_known : goal.returns-in-None-unless_known
returns-in-None-unless_known c m entry =
    let known = is_known_at (program_of m c.args.image.now (notes_of c.args.notes.now) entry) in
    let is =
    subst (λ (f : ParseFault). IsRefusedBy known (layout_of c.args.layout)
    (state_of (layout_of c.args.layout) known c.args.text.now) f) c.in-Err-Refused.field-0-is
    (c.in-Err-Refused.ensures.refused_known known) in
    let told = StateRefused c.in-Err-Refused.line (fault_of c.in-Err-Refused.kind) in
    told_left known (c.head_lines-first.result + 1) (lines_of_head (layout_of c.args.layout) + 1) c.deref-in-Err-Refused.result.now c.in-Err-Refused.bytes.items
    _ told told (ap (λ n. n + 1) c.head_lines-first.ensures) c.deref-in-Err-Refused.ensures.value is
    (c.in-None-unless_known.ensures m entry told)

pub returns-in-Err-Refused : goal.returns-in-Err-Refused
returns-in-Err-Refused c m entry =
    let known = is_known_at (program_of m c.args.image.now (notes_of c.args.notes.now) entry) in
    let is =
    subst (λ (f : ParseFault). IsRefusedBy known (layout_of c.args.layout)
    (state_of (layout_of c.args.layout) known c.args.text.now) f) c.in-Err-Refused.field-0-is
    (c.in-Err-Refused.ensures.refused_known known) in
    let told = StateRefused c.in-Err-Refused.line (fault_of c.in-Err-Refused.kind) in
    told_left known (c.head_lines-first.result + 1) (lines_of_head (layout_of c.args.layout) + 1) c.deref-in-Err-Refused.result.now c.in-Err-Refused.bytes.items
    _ told (told_of c.in-Some-unless_known.refused) (ap (λ n. n + 1) c.head_lines-first.ensures) c.deref-in-Err-Refused.ensures.value
    is (c.in-Some-unless_known.ensures m entry told)
