use Rattle.std.proofs.Common.{subst, [], ◌∷◌}
use Rattle.std.proofs.lemmas.Result.{IfOk-weaker}
use Rattle.command_line.specs.Commands.{options_of, names_of}
use Rattle.pair_sides.specs.Sides.{side_of}
use Rattle.pair_spec.specs.Equals as equals
use Rattle.bilv_top.specs.declared.pair.Which.TheVariants.{Second}
use Rattle.bilv_top.specs.Answers.{answer_of}
use Rattle.bilv_top.specs.Pairs.{AfterLinksRead, IsCompared, program_found_by}
use Rattle.bilv_top.proofs.Compared.{met_later, notes_answered_of, notes_found_of}
use Rattle.io_edges.proofs.Beginning.{begun_more, begun_then}
use Rattle.bilv_top.specs.Reads.{names_of_pair_task}
use Rattle.bilv_top.proofs.comparing.compare_to_second.Goals as goal

pub returns-in-Go-clause-compared : goal.returns-in-Go-clause-compared
returns-in-Go-clause-compared g c =
    let read = rw c.in-Go.is at c.in_ok-found.ensures.read in
    let o = options_of c.args.options in
    let first = c.args.first.now in
    let file = c.args.second.now in
    let held = g.H.Shelf.holds c.args.shelf.now in
    let before = g.H.Shelf.faults c.args.shelf.now in
    let after = g.H.Shelf.faults c.compare_by_links.new.shelf in
    IfOk-weaker c.compare_by_links.result _ _
    (λ a done s met. notes_found_of s held before after met c.args.names.other_notes.now (answer_of a) Second o file c.in-Go.found
    (λ q. AfterLinksRead s c.args.names.links.now first.image.now file (IsCompared s c.args.task (side_of first) (equals.side_of o file q)))
    read.0 read.1 c.requires.accepted read.2
    (subst (λ e. AfterLinksRead s c.args.names.links.now first.image.now e
    (IsCompared s c.args.task (side_of first) (equals.side_of o file (program_found_by o file c.in-Go.found))) (answer_of a)) c.sided-second.ensures.file
    (subst (λ b. AfterLinksRead s c.args.names.links.now first.image.now c.sided-second.result.image.now (IsCompared s c.args.task (side_of first) b)
    (answer_of a)) c.sided-second.ensures.side
    (done s (met_later s held (g.H.Shelf.holds c.read_notes_of.new.shelf) before (g.H.Shelf.faults c.read_notes_of.new.shelf) after met
    c.read_notes_of.ensures.keeps c.read_notes_of.ensures.never_falls))))) c.compare_by_links.ensures.compared

pub returns-in-Answered-clause-compared : goal.returns-in-Answered-clause-compared
returns-in-Answered-clause-compared g c s met =
    let o = options_of c.args.options in
    let first = c.args.first.now in
    let file = c.args.second.now in
    notes_answered_of s (g.H.Shelf.holds c.args.shelf.now) (g.H.Shelf.faults c.args.shelf.now) (g.H.Shelf.faults c.read_notes_of.new.shelf) met
    c.args.names.other_notes.now (answer_of c.in-Answered.answer) Second o file
    (λ q. AfterLinksRead s c.args.names.links.now first.image.now file (IsCompared s c.args.task (side_of first) (equals.side_of o file q)))
    (rw c.in-Answered.is at c.in_ok-found.ensures.read)

pub returns-in_err-found-clause-begun : goal.returns-in_err-found-clause-begun
returns-in_err-found-clause-begun g c =
    begun_more _ _ ((names_of c.args.names).other_notes ∷ []) ((names_of c.args.names).links ∷ names_of_pair_task c.args.task) c.read_notes_of.ensures.begun

pub returns-in-Go-clause-begun : goal.returns-in-Go-clause-begun
returns-in-Go-clause-begun g c =
    begun_then _ _ _ ((names_of c.args.names).other_notes ∷ []) ((names_of c.args.names).links ∷ names_of_pair_task c.args.task) c.read_notes_of.ensures.begun c.compare_by_links.ensures.begun

pub returns-in-Answered-clause-begun : goal.returns-in-Answered-clause-begun
returns-in-Answered-clause-begun g c =
    begun_more _ _ ((names_of c.args.names).other_notes ∷ []) ((names_of c.args.names).links ∷ names_of_pair_task c.args.task) c.read_notes_of.ensures.begun
