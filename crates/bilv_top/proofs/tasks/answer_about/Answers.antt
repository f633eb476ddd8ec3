use Rattle.std.proofs.Common.{◌∙◌, refl, sym, subst, [], ◌∷◌}
use Rattle.std.proofs.Math.Nat.{le_trans}
use Rattle.std.proofs.lemmas.Result.{IfOk-weaker}
use Rattle.call_spec.specs.Outside.{Agrees}
use Rattle.bilv_spec.specs.Files.{layout_of, machine_of, program_of}
use Rattle.command_line.specs.Commands.{options_of}
use Rattle.notes_value.specs.NoteViews.{notes_of}
use Rattle.io_edges.specs.Met.{seen}
use Rattle.bilv_top.specs.Answers.{answer_of}
use Rattle.bilv_top.specs.Tasks.{IsDone}
use Rattle.bilv_top.proofs.Done.{done_of, done_since}
use Rattle.bilv_top.proofs.Refused.{elf_unread, both_answered, both_found}
use Rattle.io_edges.proofs.Beginning.{begun_more, begun_then}
use Rattle.bilv_top.specs.Reads.{names_of_task}
use Rattle.bilv_top.proofs.tasks.answer_about.Goals as goal

pub returns-in-Answered-clause-answered : goal.returns-in-Answered-clause-answered
returns-in-Answered-clause-answered g c =
    elf_unread (seen (g.H.Shelf.holds c.args.shelf.now) (g.H.Shelf.faults c.args.shelf.now) (g.H.Shelf.faults c.read_elf.new.shelf))
    c.args.elf.now _ (answer_of c.in-Answered.answer) (rw c.in-Answered.is at c.in_ok-file.ensures.read)

pub returns-in-Go-2-clause-keeps : goal.returns-in-Go-2-clause-keeps
returns-in-Go-2-clause-keeps g c n = c.answer_on.ensures.keeps n ∙ c.read_program.ensures.keeps n ∙ c.read_elf.ensures.keeps n

pub returns-in-Go-2-clause-never_falls : goal.returns-in-Go-2-clause-never_falls
returns-in-Go-2-clause-never_falls g c n =
    le_trans (c.read_elf.ensures.never_falls n) (le_trans (c.read_program.ensures.never_falls n) (c.answer_on.ensures.never_falls n))

pub returns-in-Go-2-clause-answered : goal.returns-in-Go-2-clause-answered
returns-in-Go-2-clause-answered g c =
    let read = rw c.in-Go.is at c.in_ok-file.ensures.read in
    let file = c.deref.result.now in
    let agrees = subst (λ x. Agrees (g.H.Shelf.holds c.args.shelf.now c.args.elf.now) x) (sym c.deref.ensures.value) read.0 in
    let notes = c.args.notes.now in
    let o = options_of c.args.options in
    let s = seen (g.H.Shelf.holds c.args.shelf.now) (g.H.Shelf.faults c.args.shelf.now) (g.H.Shelf.faults c.answer_on.new.shelf) in
    let t = seen (g.H.Shelf.holds c.read_program.new.shelf) (g.H.Shelf.faults c.read_program.new.shelf) (g.H.Shelf.faults c.answer_on.new.shelf) in
    let found = rw c.in-Go-2.is at c.in_ok-image.ensures.read in
    let f = c.in-Go-2.found in
    let p = program_of (machine_of o file) file (notes_of f.notes) f.entry in
    IfOk-weaker c.answer_on.result _ _
    (λ a done. both_found s o c.args.elf.now notes file (λ file text. IsDone s c.args.task (layout_of o file)) (answer_of a)
    (g.H.Shelf.holds c.read_elf.new.shelf notes) (g.H.Shelf.faults c.read_elf.new.shelf notes)
    agrees (c.read_elf.ensures.keeps notes) (c.read_elf.ensures.never_falls notes) f found.1 found.2 found.3 found.4
    (λ is. done_since t s c.args.task (layout_of o file) p (answer_of a) (λ n. c.read_program.ensures.keeps n ∙ c.read_elf.ensures.keeps n)
    (λ n. le_trans (c.read_elf.ensures.never_falls n) (c.read_program.ensures.never_falls n)) (λ n. refl)
    (done_of t c.args.task (machine_of o) (layout_of o) c.in-Go-2.image file (notes_of f.notes) f.entry (answer_of a) found.0 done)))
    c.answer_on.ensures.done

pub returns-clause-answered : goal.returns-clause-answered
returns-clause-answered g c =
    let read = rw c.in-Go.is at c.in_ok-file.ensures.read in
    let agrees = subst (λ x. Agrees (g.H.Shelf.holds c.args.shelf.now c.args.elf.now) x) (sym c.deref.ensures.value) read.0 in
    let notes = c.args.notes.now in
    let o = options_of c.args.options in
    let s = seen (g.H.Shelf.holds c.args.shelf.now) (g.H.Shelf.faults c.args.shelf.now) (g.H.Shelf.faults c.read_program.new.shelf) in
    both_answered s o c.args.elf.now notes c.deref.result.now (λ file text. IsDone s c.args.task (layout_of o file)) (answer_of c.in-Answered-2.answer)
    (g.H.Shelf.holds c.read_elf.new.shelf notes)
    (g.H.Shelf.faults c.read_elf.new.shelf notes) agrees (c.read_elf.ensures.keeps notes) (c.read_elf.ensures.never_falls notes)
    (rw c.in-Answered-2.is at c.in_ok-image.ensures.read)

pub returns-in_err-file-clause-begun : goal.returns-in_err-file-clause-begun
returns-in_err-file-clause-begun g c = begun_more _ _ (c.args.elf.now ∷ []) (c.args.notes.now ∷ names_of_task c.args.task) c.read_elf.ensures.begun

pub returns-in-Answered-clause-begun : goal.returns-in-Answered-clause-begun
returns-in-Answered-clause-begun g c = begun_more _ _ (c.args.elf.now ∷ []) (c.args.notes.now ∷ names_of_task c.args.task) c.read_elf.ensures.begun

pub returns-in_err-image-clause-begun : goal.returns-in_err-image-clause-begun
returns-in_err-image-clause-begun g c =
    begun_then _ _ _ (c.args.elf.now ∷ []) (c.args.notes.now ∷ names_of_task c.args.task) c.read_elf.ensures.begun (begun_more _ _ (c.args.notes.now ∷ []) (names_of_task c.args.task) c.read_program.ensures.begun)

pub returns-in-Go-2-clause-begun : goal.returns-in-Go-2-clause-begun
returns-in-Go-2-clause-begun g c =
    begun_then _ _ _ (c.args.elf.now ∷ []) (c.args.notes.now ∷ names_of_task c.args.task) c.read_elf.ensures.begun
    (begun_then _ _ _ (c.args.notes.now ∷ []) (names_of_task c.args.task) c.read_program.ensures.begun c.answer_on.ensures.begun)

pub returns-clause-begun : goal.returns-clause-begun
returns-clause-begun g c =
    begun_then _ _ _ (c.args.elf.now ∷ []) (c.args.notes.now ∷ names_of_task c.args.task) c.read_elf.ensures.begun
    (begun_more _ _ (c.args.notes.now ∷ []) (names_of_task c.args.task) c.read_program.ensures.begun)
