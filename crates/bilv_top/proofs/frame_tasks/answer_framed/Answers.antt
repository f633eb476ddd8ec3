use Rattle.std.proofs.Common.{◌∙◌, ℕ, List, refl, sym, subst}
use Rattle.std.proofs.Math.Nat.{le_trans}
use Rattle.std.proofs.lemmas.Result.{IfOk-weaker}
use Rattle.call_spec.specs.Outside.{Agrees}
use Rattle.bilv_spec.specs.Files.{layout_of, machine_of}
use Rattle.command_line.specs.Commands.{options_of}
use Rattle.io_edges.specs.Met.{seen}
use Rattle.bilv_top.specs.Answers.{answer_of}
use Rattle.bilv_top.specs.Frames.{AreFitted, IsFramedDone, whole_by}
use Rattle.bilv_top.proofs.Refused.{elf_unread}
use Rattle.bilv_top.proofs.Segments.{framed_answered, framed_done_of, framed_read, framed_since, whole_found}
use Rattle.bilv_top.proofs.frame_tasks.answer_framed.Goals as goal

pub answer_framed_on-requires-clause-fitted : goal.answer_framed_on-requires-clause-fitted
answer_framed_on-requires-clause-fitted g c =
    let found = rw c.in-Go-2.is at c.in_ok-image.ensures.read in
    subst (λ (x : List ℕ). AreFitted (whole_by (machine_of (options_of c.args.options) x) x c.in-Go-2.framed)) (sym found.0) found.4.fitted

pub returns-in-Answered-clause-answered : goal.returns-in-Answered-clause-answered
returns-in-Answered-clause-answered g c =
    elf_unread (seen (g.H.Shelf.holds c.args.shelf.now) (g.H.Shelf.faults c.args.shelf.now) (g.H.Shelf.faults c.read_elf.new.shelf))
    c.args.elf.now _ (answer_of c.in-Answered.answer) (rw c.in-Answered.is at c.in_ok-file.ensures.read)

pub returns-in-Go-2-clause-answered : goal.returns-in-Go-2-clause-answered
returns-in-Go-2-clause-answered g c =
    let read = rw c.in-Go.is at c.in_ok-file.ensures.read in
    let file = c.deref.result.now in
    let agrees = subst (λ x. Agrees (g.H.Shelf.holds c.args.shelf.now c.args.elf.now) x) (sym c.deref.ensures.value) read.0 in
    let notes = c.args.notes.now in
    let o = options_of c.args.options in
    let s = seen (g.H.Shelf.holds c.args.shelf.now) (g.H.Shelf.faults c.args.shelf.now) (g.H.Shelf.faults c.answer_framed_on.new.shelf) in
    let t = seen (g.H.Shelf.holds c.read_framed.new.shelf) (g.H.Shelf.faults c.read_framed.new.shelf) (g.H.Shelf.faults c.answer_framed_on.new.shelf) in
    let found = rw c.in-Go-2.is at c.in_ok-image.ensures.read in
    let f = c.in-Go-2.framed in
    IfOk-weaker c.answer_framed_on.result _ _
    (λ a done. framed_read s o c.args.elf.now notes file (λ file text. IsFramedDone s c.args.task (layout_of o file)) (answer_of a)
    (g.H.Shelf.holds c.read_elf.new.shelf notes) (g.H.Shelf.faults c.read_elf.new.shelf notes)
    agrees (c.read_elf.ensures.keeps notes) (c.read_elf.ensures.never_falls notes) f found.1 found.2 found.3 found.4
    (framed_since t s c.args.task (layout_of o file) (whole_found o file f) (answer_of a) (λ n. c.read_framed.ensures.keeps n ∙ c.read_elf.ensures.keeps n)
    (λ n. le_trans (c.read_elf.ensures.never_falls n) (c.read_framed.ensures.never_falls n)) (λ n. refl)
    (framed_done_of t c.args.task (machine_of o) (layout_of o) c.in-Go-2.image file f (answer_of a) found.0 done))) c.answer_framed_on.ensures.done

pub returns-clause-answered : goal.returns-clause-answered
returns-clause-answered g c =
    let read = rw c.in-Go.is at c.in_ok-file.ensures.read in
    let agrees = subst (λ x. Agrees (g.H.Shelf.holds c.args.shelf.now c.args.elf.now) x) (sym c.deref.ensures.value) read.0 in
    let notes = c.args.notes.now in
    let o = options_of c.args.options in
    let s = seen (g.H.Shelf.holds c.args.shelf.now) (g.H.Shelf.faults c.args.shelf.now) (g.H.Shelf.faults c.read_framed.new.shelf) in
    framed_answered s o c.args.elf.now notes c.deref.result.now (λ file text. IsFramedDone s c.args.task (layout_of o file)) (answer_of c.in-Answered-2.answer)
    (g.H.Shelf.holds c.read_elf.new.shelf notes)
    (g.H.Shelf.faults c.read_elf.new.shelf notes) agrees (c.read_elf.ensures.keeps notes) (c.read_elf.ensures.never_falls notes)
    (rw c.in-Answered-2.is at c.in_ok-image.ensures.read)
