use Rattle.mem_cells.proofs.TakenBytes.{from_word}
use Rattle.mem_cells.proofs.building.Build.is_from.Goals as goal

pub returns-clause-bit : goal.returns-clause-bit
returns-clause-bit c =
    from_word c.args.self.now c.make.new.self c.make-2.new.self c.make-3.new.self _ _ _ _ _ _ _ _ c.in_ok-count.ensures.grown c.in_ok-distance.ensures.word c.in_ok-count.ensures.word c.in_ok-below.ensures.word
