use Rattle.std.proofs.Common.{subst, [], ◌∷◌}
use Rattle.std.proofs.lemmas.Result.{IfOk-weaker}
use Rattle.std.specs.Prelude.{codes}
use Rattle.command_line.specs.Commands.{names_of, options_of}
use Rattle.io_edges.specs.Met.{seen}
use Rattle.pair_spec.specs.Equals.{AfterElfOf}
use Rattle.bilv_top.specs.declared.pair.Which.TheVariants.{First}
use Rattle.bilv_top.specs.Answers.{answer_of}
use Rattle.bilv_top.specs.Pairs.{AfterSecondElf, AreCompared}
use Rattle.bilv_top.proofs.Compared.{elf_unread_of, file_read, met_by_call, met_later}
use Rattle.io_edges.proofs.Beginning.{begun_more, begun_then}
use Rattle.bilv_top.specs.Reads.{names_after_elfs}
use Rattle.bilv_top.proofs.comparing.compare_named.Goals as goal

pub returns-in-Go-clause-compared : goal.returns-in-Go-clause-compared
returns-in-Go-clause-compared g c =
    let read = rw c.in-Go.is at c.in_ok-first.ensures.read in
    let o = options_of c.args.options in
    let names = names_of c.args.names in
    let held = g.H.Shelf.holds c.args.shelf.now in
    let before = g.H.Shelf.faults c.args.shelf.now in
    let after = g.H.Shelf.faults c.compare_files.new.shelf in
    let s = seen held before after in
    let met = met_by_call held before after in
    IfOk-weaker c.compare_files.result _ _
    (λ a done. file_read s held before after met names.elf (answer_of a)
    (λ f. AfterElfOf (codes "first") f (AfterSecondElf s o names f (AreCompared s o c.args.task f))) c.in-Go.first.items read.0
    (subst (λ f. AfterElfOf (codes "first") f (AfterSecondElf s o names f (AreCompared s o c.args.task f)) (answer_of a)) c.deref.ensures.value
    (done s (met_later s held (g.H.Shelf.holds c.read_elf_of.new.shelf) before (g.H.Shelf.faults c.read_elf_of.new.shelf) after met
    c.read_elf_of.ensures.keeps c.read_elf_of.ensures.never_falls)))) c.compare_files.ensures.compared

pub returns-in-Answered-clause-compared : goal.returns-in-Answered-clause-compared
returns-in-Answered-clause-compared g c =
    let o = options_of c.args.options in
    let names = names_of c.args.names in
    let held = g.H.Shelf.holds c.args.shelf.now in
    let before = g.H.Shelf.faults c.args.shelf.now in
    let after = g.H.Shelf.faults c.read_elf_of.new.shelf in
    let s = seen held before after in
    elf_unread_of s held before after (met_by_call held before after) names.elf (answer_of c.in-Answered.answer) First
    (λ f. AfterSecondElf s o names f (AreCompared s o c.args.task f)) (rw c.in-Answered.is at c.in_ok-first.ensures.read)

pub returns-in_err-first-clause-begun : goal.returns-in_err-first-clause-begun
returns-in_err-first-clause-begun g c =
    begun_more _ _ ((names_of c.args.names).elf ∷ []) ((names_of c.args.names).other_elf ∷ names_after_elfs (names_of c.args.names) c.args.task) c.read_elf_of.ensures.begun

pub returns-in-Go-clause-begun : goal.returns-in-Go-clause-begun
returns-in-Go-clause-begun g c =
    begun_then _ _ _ ((names_of c.args.names).elf ∷ []) ((names_of c.args.names).other_elf ∷ names_after_elfs (names_of c.args.names) c.args.task) c.read_elf_of.ensures.begun c.compare_files.ensures.begun

pub returns-in-Answered-clause-begun : goal.returns-in-Answered-clause-begun
returns-in-Answered-clause-begun g c =
    begun_more _ _ ((names_of c.args.names).elf ∷ []) ((names_of c.args.names).other_elf ∷ names_after_elfs (names_of c.args.names) c.args.task) c.read_elf_of.ensures.begun
