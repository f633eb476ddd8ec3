use Rattle.std.proofs.Common.{sym, subst, [], ◌∷◌}
use Rattle.std.proofs.lemmas.Result.{IfOk-weaker}
use Rattle.notes_spec.specs.Verified.{IsAccepted}
use Rattle.command_line.specs.Commands.{names_of, options_of}
use Rattle.pair_spec.specs.Equals.{AfterElfOf, elf_accepted}
use Rattle.std.specs.Prelude.{codes}
use Rattle.bilv_top.specs.declared.pair.Which.TheVariants.{First, Second}
use Rattle.bilv_top.specs.Answers.{answer_of}
use Rattle.bilv_top.specs.Pairs.{AfterFirstNotes, AfterSecondElf, AreCompared}
use Rattle.bilv_top.proofs.Compared.{elf_answered, elf_unread_of, file_read, met_later}
use Rattle.io_edges.proofs.Beginning.{begun_more, begun_then}
use Rattle.bilv_top.specs.Reads.{names_after_elfs}
use Rattle.bilv_top.proofs.comparing.compare_files.Goals as goal

pub returns-in-Answered-clause-compared : goal.returns-in-Answered-clause-compared
returns-in-Answered-clause-compared g c s met =
    let o = options_of c.args.options in
    let f = c.args.first.now in
    elf_answered First f (AfterSecondElf s o (names_of c.args.names) f (AreCompared s o c.args.task f)) (answer_of c.in-Answered.answer)
    (rw c.in-Answered.is at c.in_ok-first.ensures)

pub compare_to_file-requires-clause-accepted : goal.compare_to_file-requires-clause-accepted
compare_to_file-requires-clause-accepted g c = let is = rw c.in-Go.is at c.in_ok-first.ensures in subst IsAccepted (sym is.0) is.1

pub returns-in-Go-2-clause-compared : goal.returns-in-Go-2-clause-compared
returns-in-Go-2-clause-compared g c =
    let is = rw c.in-Go.is at c.in_ok-first.ensures in
    let read = rw c.in-Go-2.is at c.in_ok-second.ensures.read in
    let o = options_of c.args.options in
    let names = names_of c.args.names in
    let f = c.args.first.now in
    let held = g.H.Shelf.holds c.args.shelf.now in
    let before = g.H.Shelf.faults c.args.shelf.now in
    let after = g.H.Shelf.faults c.compare_to_file.new.shelf in
    IfOk-weaker c.compare_to_file.result _ _
    (λ a done s met. elf_accepted is.1
    (file_read s held before after met names.other_elf (answer_of a)
    (λ e. AfterElfOf (codes "second") e (AfterFirstNotes s o names f e (AreCompared s o c.args.task f e))) c.in-Go-2.second.items read.0
    (subst (λ e. AfterElfOf (codes "second") e (AfterFirstNotes s o names f e (AreCompared s o c.args.task f e)) (answer_of a)) c.deref.ensures.value
    (subst (λ x. AfterElfOf (codes "second") c.deref.result.now (AfterFirstNotes s o names x c.deref.result.now
    (AreCompared s o c.args.task x c.deref.result.now)) (answer_of a)) is.0
    (done s (met_later s held (g.H.Shelf.holds c.read_elf_of.new.shelf) before (g.H.Shelf.faults c.read_elf_of.new.shelf) after met
    c.read_elf_of.ensures.keeps c.read_elf_of.ensures.never_falls)))))) c.compare_to_file.ensures.compared

pub returns-clause-compared : goal.returns-clause-compared
returns-clause-compared g c s met =
    let is = rw c.in-Go.is at c.in_ok-first.ensures in
    let o = options_of c.args.options in
    let names = names_of c.args.names in
    let f = c.args.first.now in
    elf_accepted is.1
    (elf_unread_of s (g.H.Shelf.holds c.args.shelf.now) (g.H.Shelf.faults c.args.shelf.now) (g.H.Shelf.faults c.read_elf_of.new.shelf) met
    names.other_elf (answer_of c.in-Answered-2.answer) Second (λ e. AfterFirstNotes s o names f e (AreCompared s o c.args.task f e))
    (rw c.in-Answered-2.is at c.in_ok-second.ensures.read))

pub returns-in_err-second-clause-begun : goal.returns-in_err-second-clause-begun
returns-in_err-second-clause-begun g c =
    begun_more _ _ ((names_of c.args.names).other_elf ∷ []) (names_after_elfs (names_of c.args.names) c.args.task) c.read_elf_of.ensures.begun

pub returns-in-Go-2-clause-begun : goal.returns-in-Go-2-clause-begun
returns-in-Go-2-clause-begun g c =
    begun_then _ _ _ ((names_of c.args.names).other_elf ∷ []) (names_after_elfs (names_of c.args.names) c.args.task) c.read_elf_of.ensures.begun c.compare_to_file.ensures.begun

pub returns-clause-begun : goal.returns-clause-begun
returns-clause-begun g c =
    begun_more _ _ ((names_of c.args.names).other_elf ∷ []) (names_after_elfs (names_of c.args.names) c.args.task) c.read_elf_of.ensures.begun
