use Rattle.std.proofs.Common.{List, ℕ, subst, sym}
use Rattle.answer_spec.specs.FrameAnswers.{dialect_for}
use Rattle.command_line.specs.Commands.{options_of}
use Rattle.notes_lang.specs.Framed.{frame_notes_of}
use Rattle.notes_lang.specs.Judging.{fault_of}
use Rattle.notes_lang.specs.declared.notes.Dialect.TheVariants.{Plain}
use Rattle.notes_spec.specs.FrameNotes.{IsFrameText}
use Rattle.notes_spec.specs.NotesFaults.{IsFirstNoteFault}
use Rattle.notes_spec.specs.Scopes.{in_dialect}
use Rattle.notes_value.specs.NoteViews.{notes_of}
use Rattle.note_check.specs.Options.{AreWrongOptions}
use Rattle.suite_check.specs.Warned.{said, faulty}
use Rattle.suite_check.proofs.checking.warned_unfound.Goals as goal

pub returns-in_ok-found-in-Ok : goal.returns-in_ok-found-in-Ok
returns-in_ok-found-in-Ok c =
    let n = frame_notes_of c.in-Ok.read in
    let bytes = c.args.notes.now in
    let found = c.in_ok-found-in-Ok.found.items in
    let is = subst (λ v. IsFrameText (in_dialect (dialect_for bytes) v) bytes n) (c.layout.ensures.vocabulary Plain) (c.in-Ok.ensures.said Plain) in
    said n is
    (subst (λ (x : List ℕ). AreWrongOptions c.args.options.compressed x (notes_of c.in-Ok.read.notes).entry found) (sym c.requires.image) c.in_ok-found-in-Ok.ensures)

pub returns-in-Err-Fault : goal.returns-in-Err-Fault
returns-in-Err-Fault c =
    let fault = c.in-Err-Fault.field-0-0 in
    let bytes = c.args.notes.now in
    let first = subst (λ v. IsFirstNoteFault (in_dialect (dialect_for bytes) v) bytes fault.line (fault_of fault.kind)) (c.layout.ensures.vocabulary Plain)
    (rw c.in-Err-Fault.field-0-is at (c.in-Err-Fault.ensures.refused Plain)) in
    faulty fault.line (fault_of fault.kind) first c.new.ensures.items
