use Rattle.mem_cells.proofs.Headless.{frame_told}
use Rattle.mem_cells.proofs.making.frame_cells.Goals as goal

pub returns : goal.returns
returns c = frame_told c.args.question.now _ c.args.added.now _ c.requires.terms c.in_ok-celled.ensures
