use Rattle.mem_cells.specs.Views.{cells_of, program_of_cells}
use Rattle.bit_blast.proofs.Placed.{named}
use Rattle.bit_blast.proofs.Told.{cell_words}
use Rattle.bit_blast.proofs.cells.cell_words.Goals as goal

pub words_of-requires-clause-named : goal.words_of-requires-clause-named
words_of-requires-clause-named c = λ n k. named (program_of_cells c.args.c.now) (cells_of c.args.c.now) c.args.places.now c.requires.placed n
    (c.requires.formed.named n k)

pub returns-clause-words : goal.returns-clause-words
returns-clause-words c = cell_words (program_of_cells c.args.c.now) (cells_of c.args.c.now) c.args.places.now c.requires.placed c.args.inputs.now _ _ _
    c.in_ok-words.ensures
