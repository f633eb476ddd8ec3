use Rattle.condition_tests.proofs.arm.broken_unrolled.Goals as goal

pub broken_of-requires-clause-askable : goal.broken_of-requires-clause-askable
broken_of-requires-clause-askable c = c.in_ok-passive.ensures.frame
