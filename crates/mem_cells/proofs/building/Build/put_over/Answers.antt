use Rattle.mem_cells.proofs.Puts.{put_word}
use Rattle.mem_cells.proofs.building.Build.put_over.Goals as goal

pub returns-clause-byte : goal.returns-clause-byte
returns-clause-byte c =
    put_word _ _ _ _ _ _ _ _ _ _ _ _ _ c.in_ok-condition.ensures.grown c.in_ok-byte.ensures.grown c.requires.value c.requires.below
    c.in_ok-condition.ensures.word c.in_ok-byte.ensures.word
