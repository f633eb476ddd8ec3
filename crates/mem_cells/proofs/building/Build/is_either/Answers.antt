use Rattle.mem_cells.proofs.TakenBytes.{either_word}
use Rattle.mem_cells.proofs.building.Build.is_either.Goals as goal

pub returns-clause-bit : goal.returns-clause-bit
returns-clause-bit c =
    either_word c.args.self.now c.make.new.self c.make-2.new.self c.make-3.new.self _ _ _ _ _ _ _ _ _ _ c.in_ok-is_first.ensures.grown c.in_ok-is_second.ensures.grown c.requires.address c.requires.second
    c.in_ok-is_first.ensures.word c.in_ok-is_second.ensures.word c.in_ok-either.ensures.word
