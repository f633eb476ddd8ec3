use Rattle.word_gates.proofs.compare.signed_less.Goals as goal

pub less-requires-clause-a_within : goal.less-requires-clause-a_within
less-requires-clause-a_within c = rw c.deref.ensures.value (c.in_ok-a.ensures.within _ c.requires.a_within)

pub less-requires-clause-b_within : goal.less-requires-clause-b_within
less-requires-clause-b_within c = rw c.deref-2.ensures.value (c.in_ok-b.ensures.within _ c.requires.b_within)
