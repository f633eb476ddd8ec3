use Rattle.pair_verdict.proofs.equality.equal.Goals as goal

pub unroll_both-requires : goal.unroll_both-requires
unroll_both-requires c =
    record { first = c.requires.first; second = c.requires.second; links = c.requires.links }

pub judge_priced-requires-clause-pair : goal.judge_priced-requires-clause-pair
judge_priced-requires-clause-pair c =
    record { first = c.requires.first; second = c.requires.second; links = c.requires.links }

pub judge_priced-requires-clause-unrolled : goal.judge_priced-requires-clause-unrolled
judge_priced-requires-clause-unrolled c = c.in-Ok.ensures.unrolled

pub returns-in-Err-TooMany : goal.returns-in-Err-TooMany
returns-in-Err-TooMany c = rw c.in-Err-TooMany.field-0-is (rw c.in-Err-TooMany.field-0-is at c.in-Err-TooMany.ensures.more)
