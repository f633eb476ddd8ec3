use Rattle.cnf_form.proofs.OnVariables.{on-sound}
use Rattle.cnf_form.specs.Views.{cnf_of}
use Rattle.gates.specs.Circuits.{next}
use Rattle.bit_blast.proofs.Flat.{flat_places}
use Rattle.bit_blast.proofs.Told.{none_over, said_alone}
use Rattle.pair_form.specs.Views.{pair_question_of, program_of_side_cells, side_cells_of}
use Rattle.pair_blast.proofs.Parts.{few_gates}
use Rattle.pair_blast.proofs.Told.{told}
use Rattle.pair_blast.proofs.clauses.blast_two.Goals as goal

pub cnf-requires-clause-ties : goal.cnf-requires-clause-ties
cnf-requires-clause-ties c =
    on-sound (next c.tie_sides.new.circuit) c.tie_sides.new.ties.items
    (c.in_ok-tie_sides.ensures.over (none_over (next c.in_ok-circuit.circuit) _ c.new-ties.ensures.items)).each

pub tie_sides-requires-clause-first_placed : goal.tie_sides-requires-clause-first_placed
tie_sides-requires-clause-first_placed c = c.in_ok-first_places.ensures.flat (flat_places c.args.first.now.celled c.requires.first_of.flat c.requires.first_of.headless)

pub tie_sides-requires-clause-second_placed : goal.tie_sides-requires-clause-second_placed
tie_sides-requires-clause-second_placed c = c.in_ok-second_places.ensures.flat (flat_places c.args.second.now.celled c.requires.second_of.flat c.requires.second_of.headless)

pub returns : goal.returns
returns c = λ links h.
    let a = side_cells_of c.args.first.now in
    let q = pair_question_of c.args.kind in
    told (program_of_side_cells c.args.first.now) (program_of_side_cells c.args.second.now) links q a (side_cells_of c.args.second.now)
    c.in_ok-first_places.first_places c.in_ok-second_places.second_places
    (c.in_ok-first_places.ensures.flat (flat_places c.args.first.now.celled c.requires.first_of.flat c.requires.first_of.headless))
    (c.in_ok-second_places.ensures.flat (flat_places c.args.second.now.celled c.requires.second_of.flat c.requires.second_of.headless))
    c.in_ok-circuit.circuit c.tie_sides.new.circuit c.in_ok-circuit.ensures _ c.in_ok-tie_sides.ensures.grows
    (few_gates q a.cells.nodes c.args.first.now.exits.items links h) c.tie_sides.new.ties.items
    (λ v k. said_alone v _ _ c.new-ties.ensures.items (c.in_ok-tie_sides.ensures.value v k)) _ (λ v k. c.constant-root.ensures.value v k)
    (cnf_of c.in_ok-cnf.cnf) c.in_ok-cnf.ensures
