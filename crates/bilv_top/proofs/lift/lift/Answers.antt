use Rattle.std.proofs.Common.{subst, sym, ◌≤◌, length}
use Rattle.std.proofs.lemmas.Result.{IfOk-weaker}
use Rattle.call_spec.specs.Outside.{Agrees}
use Rattle.command_line.specs.Commands.{options_of}
use Rattle.io_edges.specs.Met.{seen}
use Rattle.bilv_top.specs.Answers.{answer_of}
use Rattle.answer_spec.specs.Outcomes.{IsLifted}
use Rattle.bilv_top.proofs.Refused.{elf_unread, elf_refuses, elf_accepts}
use Rattle.bilv_top.proofs.lift.lift.Goals as goal

pub returns-in-Answered-clause-right : goal.returns-in-Answered-clause-right
returns-in-Answered-clause-right g c =
    elf_unread (seen (g.H.Shelf.holds c.args.shelf.now) (g.H.Shelf.faults c.args.shelf.now) (g.H.Shelf.faults c.read_elf.new.shelf))
    c.args.elf.now (IsLifted (options_of c.args.options)) (answer_of c.in-Answered.answer) (rw c.in-Answered.is at c.in_ok-file.ensures.read)

pub returns-in-Ok-clause-right : goal.returns-in-Ok-clause-right
returns-in-Ok-clause-right g c =
    let read = rw c.in-Go.is at c.in_ok-file.ensures.read in
    let file = c.deref.result.now in
    let agrees = subst (λ x. Agrees (g.H.Shelf.holds c.args.shelf.now c.args.elf.now) x) (sym c.deref.ensures.value) read.0 in
    let short = subst (λ x. length x ≤ 16777216) (sym c.deref.ensures.value) read.1 in
    IfOk-weaker c.lift_image.result _ _
    (λ a lifted. elf_accepts (seen (g.H.Shelf.holds c.args.shelf.now) (g.H.Shelf.faults c.args.shelf.now) (g.H.Shelf.faults c.read_elf.new.shelf))
    c.args.elf.now (IsLifted (options_of c.args.options)) (answer_of a) file agrees (short, c.in-Ok.ensures.accepted)
    (subst (λ f. IsLifted (options_of c.args.options) f (answer_of a)) c.in-Ok.ensures.image lifted)) c.lift_image.ensures

pub returns-clause-right : goal.returns-clause-right
returns-clause-right g c =
    let read = rw c.in-Go.is at c.in_ok-file.ensures.read in
    let file = c.deref.result.now in
    let agrees = subst (λ x. Agrees (g.H.Shelf.holds c.args.shelf.now c.args.elf.now) x) (sym c.deref.ensures.value) read.0 in
    let short = subst (λ x. length x ≤ 16777216) (sym c.deref.ensures.value) read.1 in
    IfOk-weaker c.refuse_elf.result _ _
    (λ a is. elf_refuses (seen (g.H.Shelf.holds c.args.shelf.now) (g.H.Shelf.faults c.args.shelf.now) (g.H.Shelf.faults c.read_elf.new.shelf))
    c.args.elf.now (IsLifted (options_of c.args.options)) (answer_of a) file c.in-Err.fault agrees short is.0 c.in-Err.ensures.refused is.1)
    c.refuse_elf.ensures
