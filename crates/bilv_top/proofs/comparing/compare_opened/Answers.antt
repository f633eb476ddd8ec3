use Rattle.std.proofs.Common.{subst, [], ◌∷◌}
use Rattle.std.proofs.lemmas.Result.{IfOk-weaker}
use Rattle.command_line.specs.Commands.{names_of, options_of}
use Rattle.pair_spec.specs.Equals as equals
use Rattle.bilv_top.specs.declared.pair.Which.TheVariants.{First}
use Rattle.bilv_top.specs.Answers.{answer_of}
use Rattle.bilv_top.specs.Pairs.{AfterSecondNotes, AreCompared, IsCompared, program_found_by}
use Rattle.bilv_top.proofs.Compared.{met_later, notes_answered_of, notes_found_of}
use Rattle.io_edges.proofs.Beginning.{begun_more, begun_then}
use Rattle.bilv_top.specs.Reads.{names_after_notes}
use Rattle.bilv_top.proofs.comparing.compare_opened.Goals as goal

pub returns-in-Go-clause-compared : goal.returns-in-Go-clause-compared
returns-in-Go-clause-compared g c =
    let read = rw c.in-Go.is at c.in_ok-found.ensures.read in
    let o = options_of c.args.options in
    let names = names_of c.args.names in
    let f = c.args.first.now in
    let e = c.args.second.now in
    let held = g.H.Shelf.holds c.args.shelf.now in
    let before = g.H.Shelf.faults c.args.shelf.now in
    let after = g.H.Shelf.faults c.compare_to_second.new.shelf in
    IfOk-weaker c.compare_to_second.result _ _
    (λ a done s met. notes_found_of s held before after met names.notes (answer_of a) First o f c.in-Go.found
    (λ p. AfterSecondNotes s o names f e (AreCompared s o c.args.task f e p))
    read.0 read.1 c.requires.first_accepted read.2
    (subst (λ z. AfterSecondNotes s o names z e
    (λ q. IsCompared s c.args.task (equals.side_of o f (program_found_by o f c.in-Go.found)) (equals.side_of o e q)) (answer_of a)) c.sided-first.ensures.file
    (subst (λ x. AfterSecondNotes s o names c.sided-first.result.image.now e (λ q. IsCompared s c.args.task x (equals.side_of o e q)) (answer_of a))
    c.sided-first.ensures.side
    (done s (met_later s held (g.H.Shelf.holds c.read_notes_of.new.shelf) before (g.H.Shelf.faults c.read_notes_of.new.shelf) after met
    c.read_notes_of.ensures.keeps c.read_notes_of.ensures.never_falls))))) c.compare_to_second.ensures.compared

pub returns-in-Answered-clause-compared : goal.returns-in-Answered-clause-compared
returns-in-Answered-clause-compared g c s met =
    let o = options_of c.args.options in
    let names = names_of c.args.names in
    let f = c.args.first.now in
    let e = c.args.second.now in
    notes_answered_of s (g.H.Shelf.holds c.args.shelf.now) (g.H.Shelf.faults c.args.shelf.now) (g.H.Shelf.faults c.read_notes_of.new.shelf) met
    names.notes (answer_of c.in-Answered.answer) First o f (λ p. AfterSecondNotes s o names f e (AreCompared s o c.args.task f e p))
    (rw c.in-Answered.is at c.in_ok-found.ensures.read)

pub returns-in_err-found-clause-begun : goal.returns-in_err-found-clause-begun
returns-in_err-found-clause-begun g c =
    begun_more _ _ ((names_of c.args.names).notes ∷ []) (names_after_notes (names_of c.args.names) c.args.task) c.read_notes_of.ensures.begun

pub returns-in-Go-clause-begun : goal.returns-in-Go-clause-begun
returns-in-Go-clause-begun g c =
    begun_then _ _ _ ((names_of c.args.names).notes ∷ []) (names_after_notes (names_of c.args.names) c.args.task) c.read_notes_of.ensures.begun c.compare_to_second.ensures.begun

pub returns-in-Answered-clause-begun : goal.returns-in-Answered-clause-begun
returns-in-Answered-clause-begun g c =
    begun_more _ _ ((names_of c.args.names).notes ∷ []) (names_after_notes (names_of c.args.names) c.args.task) c.read_notes_of.ensures.begun
