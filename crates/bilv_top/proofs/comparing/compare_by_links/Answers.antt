use Rattle.std.proofs.Common.{subst, [], ◌∷◌}
use Rattle.std.proofs.lemmas.Result.{IfOk-weaker}
use Rattle.links_lang.specs.Views.{links_of}
use Rattle.notes_lang.specs.Parsing.{layout_names}
use Rattle.pair_sides.specs.Sides.{side_of}
use Rattle.bilv_top.specs.Answers.{answer_of}
use Rattle.bilv_top.specs.Pairs.{IsCompared}
use Rattle.bilv_top.proofs.Compared.{links_answered, links_found, met_later}
use Rattle.io_edges.proofs.Beginning.{begun_more, begun_then}
use Rattle.bilv_top.specs.Reads.{names_of_pair_task}
use Rattle.bilv_top.proofs.comparing.compare_by_links.Goals as goal

pub returns-in-Go-clause-compared : goal.returns-in-Go-clause-compared
returns-in-Go-clause-compared g c =
    let found = rw c.in-Go.is at c.in_ok-links.ensures.read in
    let first = c.args.first.now in
    let second = c.args.second.now in
    let held = g.H.Shelf.holds c.args.shelf.now in
    let before = g.H.Shelf.faults c.args.shelf.now in
    let after = g.H.Shelf.faults c.compare.new.shelf in
    IfOk-weaker c.compare.result _ _
    (λ a done s met. links_found s held before after met c.args.links.now (answer_of a) first.image.now second.image.now first.layout second.layout
    c.in-Go.links.items (IsCompared s c.args.task (side_of first) (side_of second)) c.requires.first_names c.requires.second_names found
    (subst (λ ls. IsCompared s c.args.task (side_of first) (side_of second) (links_of ls) (answer_of a)) c.deref.ensures.value
    (done s (met_later s held (g.H.Shelf.holds c.read_links.new.shelf) before (g.H.Shelf.faults c.read_links.new.shelf) after met
    c.read_links.ensures.keeps c.read_links.ensures.never_falls)))) c.compare.ensures.compared

pub returns-in-Answered-clause-compared : goal.returns-in-Answered-clause-compared
returns-in-Answered-clause-compared g c s met =
    let first = c.args.first.now in
    let second = c.args.second.now in
    links_answered s (g.H.Shelf.holds c.args.shelf.now) (g.H.Shelf.faults c.args.shelf.now) (g.H.Shelf.faults c.read_links.new.shelf) met c.args.links.now
    (answer_of c.in-Answered.answer) first.image.now second.image.now (layout_names first.layout) (layout_names second.layout)
    (IsCompared s c.args.task (side_of first) (side_of second)) c.requires.first_names c.requires.second_names
    (rw c.in-Answered.is at c.in_ok-links.ensures.read)

pub returns-in_err-links-clause-begun : goal.returns-in_err-links-clause-begun
returns-in_err-links-clause-begun g c = begun_more _ _ (c.args.links.now ∷ []) (names_of_pair_task c.args.task) c.read_links.ensures.begun

pub returns-in-Go-clause-begun : goal.returns-in-Go-clause-begun
returns-in-Go-clause-begun g c = begun_then _ _ _ (c.args.links.now ∷ []) (names_of_pair_task c.args.task) c.read_links.ensures.begun c.compare.ensures.begun

pub returns-in-Answered-clause-begun : goal.returns-in-Answered-clause-begun
returns-in-Answered-clause-begun g c = begun_more _ _ (c.args.links.now ∷ []) (names_of_pair_task c.args.task) c.read_links.ensures.begun
