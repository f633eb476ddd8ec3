use Rattle.weakest_pre.proofs.KnownWords.{runs_bounded, runs_masked}
use Rattle.weakest_pre.proofs.facts.runs_of.Goals as goal

pub returns-then-bounded-masked-clause-met : goal.returns-then-bounded-masked-clause-met
returns-then-bounded-masked-clause-met c = λ w l h.
    runs_bounded c.args.known _ w c.common_place-bounded.ensures.same c.low_count-count.ensures.ones c.from_place.ensures.bits c.lowest-below.ensures.bits h

pub returns-clause-met : goal.returns-clause-met
returns-clause-met c = λ w l h.
    runs_masked c.args.known _ w c.high_place-masked.ensures.few c.high_place-masked.ensures.ones c.low_count-count.ensures.ones c.from_place-2.ensures.bits
    c.lowest-below.ensures.bits l h
