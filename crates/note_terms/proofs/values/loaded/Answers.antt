use Rattle.note_terms.proofs.Valued.{loaded_step}
use Rattle.note_terms.proofs.values.loaded.Goals as goal

pub returns : goal.returns
returns c =
    loaded_step _ _ _ _ _ _ _ _ _ _ _ _ c.bytes.ensures c.requires.memory c.requires.address.within c.in_ok-address.ensures c.in_ok-found.ensures
    c.in_ok-word.ensures
