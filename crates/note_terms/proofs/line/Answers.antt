use Rattle.note_terms.proofs.Valued.{free_value, line_made}
use Rattle.note_terms.proofs.line.Goals as goal

pub returns : goal.returns
returns c =
    line_made _ _ _ _ _ _ _ _ _ _ _ (record { names = c.requires.now; pc = c.requires.pc }) (record { names = c.requires.entry; pc = c.requires.entry_pc })
    c.in_ok-zero.ensures (free_value _ _ _ _ _ _ _ c.in_ok-found.ensures) c.in_ok-bit.ensures
