use Rattle.cnf_form.specs.Views.{cnf_of}
use Rattle.question_form.specs.FrameQuestions.{heads_of_question}
use Rattle.mem_cells.specs.FrameViews.{frame_cells_of, frame_of_cells}
use Rattle.bit_blast.proofs.ClausesTold.{frame_told}
use Rattle.bit_blast.proofs.FramePlaces.{named, reads_are}
use Rattle.bit_blast.proofs.clauses.blast_frame.Goals as goal

pub clauses_of-requires-clause-named : goal.clauses_of-requires-clause-named
clauses_of-requires-clause-named c =
    let k = c.args.c.now in
    named (frame_of_cells k) (heads_of_question k.question.now) (frame_cells_of k) c.in_ok-places.places c.in_ok-places.ensures.frame c.requires

pub clauses_of-requires-clause-reads : goal.clauses_of-requires-clause-reads
clauses_of-requires-clause-reads c =
    let k = c.args.c.now in
    reads_are (frame_of_cells k) (heads_of_question k.question.now) (frame_cells_of k) c.in_ok-places.places c.in_ok-places.ensures.frame c.requires

pub returns : goal.returns
returns c =
    let k = c.args.c.now in
    frame_told (frame_of_cells k) (heads_of_question k.question.now) (frame_cells_of k) c.requires c.in_ok-places.places c.in_ok-places.ensures.frame
    (cnf_of c.in_ok-cnf.cnf) c.in_ok-cnf.ensures
