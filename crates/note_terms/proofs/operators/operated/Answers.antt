use Rattle.bil_ast.specs.Views.{binary_of}
use Rattle.note_terms.proofs.Applied.{operands_typed, operated_step}
use Rattle.note_terms.proofs.operators.operated.Goals as goal

pub mk-requires : goal.mk-requires
mk-requires c =
    operands_typed _ _ _ _ _ _ _ _ (binary_of c.on_words.result.op) c.on_words.result.swapped _ _ _ c.in_ok-left.ensures c.in_ok-right.ensures c.binary.ensures

pub returns : goal.returns
returns c =
    operated_step _ _ _ _ _ _ c.on_words.result.swapped _ _ _ _ _ _ c.on_words.ensures c.requires.left.within c.requires.right.within c.in_ok-left.ensures
    c.in_ok-right.ensures c.binary.ensures c.in_ok-term.ensures
