use Rattle.question_form.specs.Questions.{term_of}
use Rattle.mem_cells.proofs.Headless.{headless_gifts, headless_named, made_flat, made_headless}
use Rattle.mem_cells.proofs.making.cells_with_words.Goals as goal

pub made-requires-clause-named : goal.made-requires-clause-named
made-requires-clause-named c = headless_named c.args.question.now (term_of c.args.question.now).nodes c.requires.headless c.requires.terms.1.named

pub made-requires-clause-gifts : goal.made-requires-clause-gifts
made-requires-clause-gifts c = headless_gifts c.args.question.now.passive.now.unrolled.now c.requires.headless

pub returns-clause-cells : goal.returns-clause-cells
returns-clause-cells c =
    made_headless c.args.question.now c.args.words.now c.args.added.now c.in_ok-cells.cells c.requires.terms.0 c.requires.headless c.requires.terms.1
    c.in_ok-cells.ensures

pub returns-clause-flat : goal.returns-clause-flat
returns-clause-flat c =
    made_flat c.args.question.now c.args.words.now c.args.added.now c.in_ok-cells.cells c.requires.headless c.in_ok-cells.ensures
