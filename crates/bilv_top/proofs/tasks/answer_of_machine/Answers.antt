use Rattle.std.proofs.Common.{subst}
use Rattle.std.proofs.lemmas.Result.{IfOk-weaker}
use Rattle.bilv_spec.specs.Run.{Program}
use Rattle.bilv_top.specs.Tasks.{IsDone}
use Rattle.bilv_spec.specs.Files.{layout_of, machine_of}
use Rattle.command_line.specs.Commands.{options_of}
use Rattle.io_edges.specs.Met.{seen}
use Rattle.notes_value.specs.NoteViews.{notes_of}
use Rattle.bilv_top.specs.Answers.{answer_of}
use Rattle.bilv_top.proofs.Done.{done_on}
use Rattle.bilv_top.proofs.tasks.answer_of_machine.Goals as goal

pub program_on-program-requires-clause-machine : goal.program_on-program-requires-clause-machine
program_on-program-requires-clause-machine g c = (options_of c.args.options, c.requires.machine)

pub returns-clause-done : goal.returns-clause-done
returns-clause-done g c =
    let s = seen (g.H.Shelf.holds c.args.shelf.now) (g.H.Shelf.faults c.args.shelf.now) (g.H.Shelf.faults c.answer_by.new.shelf) in
    let o = options_of c.args.options in
    let file = c.args.image.now in
    IfOk-weaker c.answer_by.result _ _
    (λ a done. done_on s c.args.task g.M.Machine.machine (machine_of o file) g.M.Machine.form (layout_of o file) file (notes_of c.args.found.now.notes)
    c.args.found.now.entry (answer_of a) c.requires.machine c.requires.form
    (subst (λ (p : Program). IsDone s c.args.task g.M.Machine.form p (answer_of a)) c.program_on-program.ensures done)) c.answer_by.ensures.done
