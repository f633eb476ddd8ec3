use Rattle.std.proofs.Common.{sym, subst}
use Rattle.std.proofs.lemmas.Result.{IfOk-weaker}
use Rattle.notes_spec.specs.Verified.{IsAccepted}
use Rattle.command_line.specs.Commands.{names_of, options_of}
use Rattle.pair_spec.specs.Equals.{elf_accepted}
use Rattle.bilv_top.specs.declared.pair.Which.TheVariants.{Second}
use Rattle.bilv_top.specs.Answers.{answer_of}
use Rattle.bilv_top.specs.Pairs.{AfterFirstNotes, AreCompared}
use Rattle.bilv_top.proofs.Compared.{elf_answered}
use Rattle.bilv_top.proofs.comparing.compare_to_file.Goals as goal

pub compare_opened-requires-clause-second_accepted : goal.compare_opened-requires-clause-second_accepted
compare_opened-requires-clause-second_accepted g c =
    let is = rw c.in-Go.is at c.in_ok-second.ensures in subst IsAccepted (sym is.0) is.1

pub returns-in-Go-clause-compared : goal.returns-in-Go-clause-compared
returns-in-Go-clause-compared g c =
    let is = rw c.in-Go.is at c.in_ok-second.ensures in
    let o = options_of c.args.options in
    let names = names_of c.args.names in
    let f = c.args.first.now in
    IfOk-weaker c.compare_opened.result _ _
    (λ a done s met. elf_accepted is.1
    (subst (λ e. AfterFirstNotes s o names f e (AreCompared s o c.args.task f e) (answer_of a)) is.0 (done s met))) c.compare_opened.ensures.compared

pub returns-in-Answered-clause-compared : goal.returns-in-Answered-clause-compared
returns-in-Answered-clause-compared g c s met =
    let o = options_of c.args.options in
    let f = c.args.first.now in
    let e = c.args.second.now in
    elf_answered Second e (AfterFirstNotes s o (names_of c.args.names) f e (AreCompared s o c.args.task f e)) (answer_of c.in-Answered.answer)
    (rw c.in-Answered.is at c.in_ok-second.ensures)
