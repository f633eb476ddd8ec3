use Rattle.note_terms.proofs.Applied.{connected_step}
use Rattle.note_terms.proofs.operators.connected.Goals as goal

pub returns : goal.returns
returns c =
    connected_step _ _ _ _ c.args.both _ _ _ _ _ _ c.connective.ensures c.requires.left.within c.requires.right.within c.in_ok-left.ensures
    c.in_ok-right.ensures
    c.in_ok-bit.ensures
