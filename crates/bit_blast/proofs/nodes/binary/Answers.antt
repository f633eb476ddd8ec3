use Rattle.bit_blast.proofs.nodes.binary.Goals as goal

pub operator-requires-clause-a_within : goal.operator-requires-clause-a_within
operator-requires-clause-a_within c = c.operand-a.ensures.within _ c.requires.within

pub operator-requires-clause-b_within : goal.operator-requires-clause-b_within
operator-requires-clause-b_within c = c.operand-b.ensures.within _ c.requires.within
