use Rattle.bit_blast.proofs.nodes.joined.Goals as goal

pub returns-clause-within : goal.returns-clause-within
returns-clause-within c = λ n h. c.in_ok-word.ensures.within n (c.operand-a.ensures.within n h) (c.operand-b.ensures.within n h)
