use Rattle.note_terms.proofs.Valued.{free_value, word_made}
use Rattle.note_terms.proofs.word.Goals as goal

pub returns : goal.returns
returns c =
    word_made _ _ _ _ _ _ _ _ _ _ _ (record { names = c.requires.now; pc = c.requires.pc }) (record { names = c.requires.entry; pc = c.requires.entry_pc })
    c.in_ok-zero.ensures (free_value _ _ _ _ _ _ _ c.in_ok-found.ensures) c.in_ok-word.ensures
