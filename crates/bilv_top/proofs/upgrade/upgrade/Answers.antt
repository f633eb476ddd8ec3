use Rattle.std.proofs.Common.{◌≡◌, sym, subst, [], ◌∷◌}
use Rattle.std.proofs.lemmas.Result.{IfOk-weaker}
use Rattle.call_spec.specs.Outside.{Agrees}
use Rattle.answer_spec.specs.Outcomes.{upgrade_answer}
use Rattle.command_line.specs.Commands.{options_of}
use Rattle.io_edges.specs.Met.{seen}
use Rattle.bilv_top.specs.Answers.{answer_of}
use Rattle.bilv_top.proofs.Refused.{elf_unread}
use Rattle.bilv_top.proofs.Segments.{framed_answered, framed_read}
use Rattle.io_edges.proofs.Beginning.{begun_more, begun_then}
use Rattle.bilv_top.proofs.upgrade.upgrade.Goals as goal

pub returns-in-Answered-clause-right : goal.returns-in-Answered-clause-right
returns-in-Answered-clause-right g c =
    elf_unread (seen (g.H.Shelf.holds c.args.shelf.now) (g.H.Shelf.faults c.args.shelf.now) (g.H.Shelf.faults c.read_elf.new.shelf))
    c.args.elf.now _ (answer_of c.in-Answered.answer) (rw c.in-Answered.is at c.in_ok-file.ensures.read)

pub returns-in-Go-2-clause-right : goal.returns-in-Go-2-clause-right
returns-in-Go-2-clause-right g c =
    let read = rw c.in-Go.is at c.in_ok-file.ensures.read in
    let file = c.deref.result.now in
    let agrees = subst (λ x. Agrees (g.H.Shelf.holds c.args.shelf.now c.args.elf.now) x) (sym c.deref.ensures.value) read.0 in
    let notes = c.args.notes.now in
    let s = seen (g.H.Shelf.holds c.args.shelf.now) (g.H.Shelf.faults c.args.shelf.now) (g.H.Shelf.faults c.read_framed.new.shelf) in
    let found = rw c.in-Go-2.is at c.in_ok-framed.ensures.read in
    let f = c.in-Go-2.framed in
    IfOk-weaker c.print_again.result _ _
    (λ a is. framed_read s (options_of c.args.options) c.args.elf.now notes file (λ file text w x. x ≡ upgrade_answer text) (answer_of a)
    (g.H.Shelf.holds c.read_elf.new.shelf notes) (g.H.Shelf.faults c.read_elf.new.shelf notes)
    agrees (c.read_elf.ensures.keeps notes) (c.read_elf.ensures.never_falls notes) f found.1 found.2 found.3 found.4
    (subst (λ t. answer_of a ≡ upgrade_answer t) c.deref-in-Go-2.ensures.value is)) c.print_again.ensures

pub returns-clause-right : goal.returns-clause-right
returns-clause-right g c =
    let read = rw c.in-Go.is at c.in_ok-file.ensures.read in
    let agrees = subst (λ x. Agrees (g.H.Shelf.holds c.args.shelf.now c.args.elf.now) x) (sym c.deref.ensures.value) read.0 in
    let notes = c.args.notes.now in
    let s = seen (g.H.Shelf.holds c.args.shelf.now) (g.H.Shelf.faults c.args.shelf.now) (g.H.Shelf.faults c.read_framed.new.shelf) in
    framed_answered s (options_of c.args.options) c.args.elf.now notes c.deref.result.now (λ file text w x. x ≡ upgrade_answer text)
    (answer_of c.in-Answered-2.answer) (g.H.Shelf.holds c.read_elf.new.shelf notes)
    (g.H.Shelf.faults c.read_elf.new.shelf notes) agrees (c.read_elf.ensures.keeps notes) (c.read_elf.ensures.never_falls notes)
    (rw c.in-Answered-2.is at c.in_ok-framed.ensures.read)

pub returns-in_err-file-clause-begun : goal.returns-in_err-file-clause-begun
returns-in_err-file-clause-begun g c = begun_more _ _ (c.args.elf.now ∷ []) (c.args.notes.now ∷ []) c.read_elf.ensures.begun

pub returns-in-Answered-clause-begun : goal.returns-in-Answered-clause-begun
returns-in-Answered-clause-begun g c = begun_more _ _ (c.args.elf.now ∷ []) (c.args.notes.now ∷ []) c.read_elf.ensures.begun

pub returns-in_err-framed-clause-begun : goal.returns-in_err-framed-clause-begun
returns-in_err-framed-clause-begun g c = begun_then _ _ _ (c.args.elf.now ∷ []) (c.args.notes.now ∷ []) c.read_elf.ensures.begun c.read_framed.ensures.begun

pub returns-in-Go-2-clause-begun : goal.returns-in-Go-2-clause-begun
returns-in-Go-2-clause-begun g c = begun_then _ _ _ (c.args.elf.now ∷ []) (c.args.notes.now ∷ []) c.read_elf.ensures.begun c.read_framed.ensures.begun

pub returns-clause-begun : goal.returns-clause-begun
returns-clause-begun g c = begun_then _ _ _ (c.args.elf.now ∷ []) (c.args.notes.now ∷ []) c.read_elf.ensures.begun c.read_framed.ensures.begun
