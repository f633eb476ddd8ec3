use Rattle.std.proofs.Common.{subst}
use Rattle.notes_spec.specs.Verified.{elf_refused, elf_accepted}
use Rattle.bilv_top.specs.Answers.{answer_of, elf_text_of}
use Rattle.command_line.specs.Commands.{options_of}
use Rattle.bilv_top.specs.Due.{IsFramesAnswer}
use Rattle.bilv_top.proofs.Refused.{elf_is_refused}
use Rattle.bilv_top.proofs.framed.read_framed.Goals as goal

pub returns-in-Err-clause-read : goal.returns-in-Err-clause-read
returns-in-Err-clause-read g c =
    let is = c.in_ok-refuse_elf-in-Err.ensures in
    elf_refused (elf_text_of c.in-Err.fault) (elf_is_refused c.args.file.now c.in-Err.fault is.0 c.requires.short c.in-Err.ensures.refused) is.1

pub returns-clause-read : goal.returns-clause-read
returns-clause-read g c =
    let held = g.H.Shelf.holds c.args.shelf.now c.args.notes.now in
    let before = g.H.Shelf.faults c.args.shelf.now c.args.notes.now in
    let after = g.H.Shelf.faults c.read_framed_notes.new.shelf c.args.notes.now in
    elf_accepted (c.requires.short, c.in-Ok.ensures.accepted)
    (subst (λ x. IsFramesAnswer held before after (options_of c.args.options) x (answer_of c.in-Answered.answer)) c.in-Ok.ensures.image
    (rw c.in-Answered.is at c.in_ok-framed.ensures.read))
