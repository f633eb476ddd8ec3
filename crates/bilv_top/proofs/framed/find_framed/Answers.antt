use Rattle.std.proofs.Common.{refl, subst}
use Rattle.answer_spec.specs.FrameAnswers.{dialect_for}
use Rattle.command_line.specs.Commands.{options_of}
use Rattle.notes_spec.specs.FrameNotes.{IsFrameText}
use Rattle.notes_spec.specs.NotesFaults.{IsFirstNoteFault}
use Rattle.notes_spec.specs.Programs.{vocabulary_of}
use Rattle.notes_spec.specs.Scopes.{in_dialect}
use Rattle.notes_lang.specs.Framed.{frame_notes_of}
use Rattle.notes_lang.specs.Judging.{fault_of}
use Rattle.notes_lang.specs.declared.notes.Dialect.TheVariants.{Plain}
use Rattle.notes_value.specs.NoteViews.{notes_of}
use Rattle.bilv_top.specs.Answers.{answer_of}
use Rattle.bilv_top.proofs.Refused.{line_answered, name_answered}
use Rattle.bilv_top.proofs.Segments.{framed_found}
use Rattle.bilv_top.proofs.framed.find_framed.Goals as goal

pub returns-in-Err-Fault : goal.returns-in-Err-Fault
returns-in-Err-Fault c =
    let fault = c.in-Err-Fault.fault in
    let o = options_of c.args.options in
    let file = c.args.image.now in
    let bytes = c.deref.result.now in
    let first = subst (λ v. IsFirstNoteFault (in_dialect (dialect_for bytes) v) bytes fault.line (fault_of fault.kind)) (c.layout.ensures.vocabulary Plain)
    (rw c.in-Err-Fault.field-0-is at (c.in-Err-Fault.ensures.refused Plain)) in
    line_answered (dialect_for c.args.text.items) o file c.args.text.items fault.line (fault_of fault.kind)
    (answer_of c.in_ok-refuse_line-in-Err-Fault.field-0) c.requires.short
    (subst (λ t. IsFirstNoteFault (in_dialect (dialect_for t) (vocabulary_of o file)) t fault.line (fault_of fault.kind)) c.deref.ensures.value first)
    (rw c.in-Err-Fault.fault-is at c.in_ok-refuse_line-in-Err-Fault.ensures)

pub returns-in-Ok-entry_of : goal.returns-in-Ok-entry_of
returns-in-Ok-entry_of c =
    let read = c.in-Ok.ensures in (
      refl,
      framed_found (options_of c.args.options) c.args.image.now c.deref.result.now c.layout.result Plain _ (c.layout.ensures.vocabulary Plain)
          c.layout.ensures.registers c.layout.ensures.flags c.deref.ensures.value (read.said Plain) c.in-Ok-entry_of.ensures read.rising read.readable read.over
          read.contracts read.changes,
    )

pub returns-in_ok-refuse_name-in-Err : goal.returns-in_ok-refuse_name-in-Err
returns-in_ok-refuse_name-in-Err c =
    let notes = notes_of c.in-Ok.read.notes in
    let o = options_of c.args.options in
    let file = c.args.image.now in
    let bytes = c.deref.result.now in
    let n = frame_notes_of c.in-Ok.read in
    let said = subst (λ v. IsFrameText (in_dialect (dialect_for bytes) v) bytes n) (c.layout.ensures.vocabulary Plain) (c.in-Ok.ensures.said Plain) in
    let is = subst (λ t. IsFrameText (in_dialect (dialect_for t) (vocabulary_of o file)) t n) c.deref.ensures.value said in
    name_answered (dialect_for c.args.text.items) o file c.args.text.items notes c.in-Err.fault (answer_of c.in_ok-refuse_name-in-Err.field-0)
    c.requires.short is.is_notes c.in-Err.ensures c.in_ok-refuse_name-in-Err.ensures
