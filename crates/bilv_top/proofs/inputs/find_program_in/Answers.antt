use Rattle.std.proofs.Common.{subst}
use Rattle.notes_spec.specs.Programs.{vocabulary_of}
use Rattle.command_line.specs.Commands.{options_of}
use Rattle.notes_spec.specs.NotesGrammar.{IsNotesText}
use Rattle.notes_spec.specs.NotesFaults.{IsFirstNoteFault}
use Rattle.notes_value.specs.NoteViews.{notes_of}
use Rattle.notes_lang.specs.Named.{dialect_of}
use Rattle.notes_spec.specs.Scopes.{in_dialect}
use Rattle.notes_lang.specs.Judging.{fault_of}
use Rattle.bilv_top.specs.Answers.{answer_of}
use Rattle.bilv_top.proofs.Refused.{line_answered, name_answered}
use Rattle.bilv_top.proofs.inputs.find_program_in.Goals as goal

pub returns-in-Err-Fault : goal.returns-in-Err-Fault
returns-in-Err-Fault c =
    let fault = c.in-Err-Fault.fault in
    let o = options_of c.args.options in
    let d = dialect_of c.args.dialect in
    let words = in_dialect d (vocabulary_of o c.args.image.now) in
    let first = subst (λ n. IsFirstNoteFault n c.deref.result.now fault.line (fault_of fault.kind)) (c.layout.ensures.vocabulary c.args.dialect)
    (rw c.in-Err-Fault.field-0-is at c.in-Err-Fault.ensures.err) in
    line_answered d o c.args.image.now c.args.text.items fault.line (fault_of fault.kind) (answer_of c.in_ok-refuse_line-in-Err-Fault.field-0) c.requires.short
    (subst (λ t. IsFirstNoteFault words t fault.line (fault_of fault.kind)) c.deref.ensures.value first)
    (rw c.in-Err-Fault.fault-is at c.in_ok-refuse_line-in-Err-Fault.ensures)

pub returns-in_ok-refuse_name-in-Err : goal.returns-in_ok-refuse_name-in-Err
returns-in_ok-refuse_name-in-Err c =
    let notes = notes_of c.in-Ok.notes in
    let o = options_of c.args.options in
    let d = dialect_of c.args.dialect in
    let said = subst (λ n. IsNotesText n c.deref.result.now notes) (c.layout.ensures.vocabulary c.args.dialect) c.in-Ok.ensures.ok in
    name_answered d o c.args.image.now c.args.text.items notes c.in-Err.fault (answer_of c.in_ok-refuse_name-in-Err.field-0) c.requires.short
    (subst (λ t. IsNotesText (in_dialect d (vocabulary_of o c.args.image.now)) t notes) c.deref.ensures.value said) c.in-Err.ensures c.in_ok-refuse_name-in-Err.ensures
