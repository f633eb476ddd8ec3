use Rattle.word_gates.proofs.compare.signed_less_or_equal.Goals as goal

pub less_or_equal-requires-clause-a_within : goal.less_or_equal-requires-clause-a_within
less_or_equal-requires-clause-a_within c = rw c.deref.ensures.value (c.in_ok-a.ensures.within _ c.requires.a_within)

pub less_or_equal-requires-clause-b_within : goal.less_or_equal-requires-clause-b_within
less_or_equal-requires-clause-b_within c = rw c.deref-2.ensures.value (c.in_ok-b.ensures.within _ c.requires.b_within)
