use Rattle.std.proofs.Common.{subst}
use Rattle.cnf_form.specs.Views.{cnf_of}
use Rattle.frame_terms.specs.FrameCells.{Cells}
use Rattle.mem_cells.specs.FrameViews.{frame_cells_of}
use Rattle.mem_cells.specs.Views.{cells_of, program_of_cells}
use Rattle.bit_blast.specs.CellClauses.{AreClauses}
use Rattle.bit_blast.proofs.ClausesTold.{program_told}
use Rattle.bit_blast.proofs.Flat.{flat_places}
use Rattle.bit_blast.proofs.Placed.{named}
use Rattle.bit_blast.proofs.Told.{flat_reads}
use Rattle.bit_blast.proofs.clauses.blast.Goals as goal

pub clauses_of-requires-clause-named : goal.clauses_of-requires-clause-named
clauses_of-requires-clause-named c = λ n h.
    let k = c.args.c.now in
    let placed = c.in_ok-places.ensures.flat (flat_places k c.requires.flat c.requires.headless) in
    named (program_of_cells k) (cells_of k) c.in_ok-places.places placed n (c.requires.formed.named n h)

pub clauses_of-requires-clause-reads : goal.clauses_of-requires-clause-reads
clauses_of-requires-clause-reads c =
    let k = c.args.c.now in
    let placed = c.in_ok-places.ensures.flat (flat_places k c.requires.flat c.requires.headless) in
    flat_reads (program_of_cells k) (cells_of k) c.in_ok-places.places placed c.requires.formed (frame_cells_of k) c.requires.flat

pub returns : goal.returns
returns c =
    let k = c.args.c.now in
    let placed = c.in_ok-places.ensures.flat (flat_places k c.requires.flat c.requires.headless) in
    program_told (program_of_cells k) (cells_of k) c.requires.formed c.in_ok-places.places placed (cnf_of c.in_ok-cnf.cnf)
    (subst (λ (z : Cells). AreClauses c.in_ok-places.places z (cnf_of c.in_ok-cnf.cnf)) c.requires.flat c.in_ok-cnf.ensures)
