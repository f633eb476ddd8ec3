use Rattle.std.proofs.Common.{◌∙◌, refl, arith}
use Rattle.bit_blast.proofs.NextNode.{selected}
use Rattle.bit_blast.proofs.nodes.selection.Goals as goal

pub choice-requires-clause-c_within : goal.choice-requires-clause-c_within
choice-requires-clause-c_within c =
    (c.operand-c.ensures.within _ c.requires.within).each 0 _ (let e = c.operand-c.ensures.len ∙ c.requires.typed.1.1 in omega arith)

pub choice-requires-clause-a_within : goal.choice-requires-clause-a_within
choice-requires-clause-a_within c = c.operand-a.ensures.within _ c.requires.within

pub choice-requires-clause-b_within : goal.choice-requires-clause-b_within
choice-requires-clause-b_within c = c.operand-b.ensures.within _ c.requires.within

pub returns-clause-value : goal.returns-clause-value
returns-clause-value c = λ v x h.
    c.in_ok-word.ensures.value v h
    ∙ selected v c.operand-c.result.now _ _ _ _ _ _ (c.operand-c.ensures.len ∙ c.requires.typed.1.1) refl (c.operand-c.ensures.value v)
    (c.operand-a.ensures.value v) (c.operand-b.ensures.value v)
