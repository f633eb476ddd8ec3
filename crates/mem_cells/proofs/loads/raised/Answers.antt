use Rattle.mem_cells.proofs.LoadedBytes.{raised_word}
use Rattle.mem_cells.proofs.loads.raised.Goals as goal

pub returns-clause-word : goal.returns-clause-word
returns-clause-word c =
    raised_word c.args.build.now c.make.new.self c.make-2.new.self _ _ _ _ _ _ c.in_ok-right.ensures.grown c.requires.address c.in_ok-right.ensures.word
    c.in_ok-term.ensures.word
