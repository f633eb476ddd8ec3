use Rattle.pair_verdict.specs.PairRounds.{first_placed, second_placed}
use Rattle.pair_verdict.proofs.SidesDecided.{fewer_left}
use Rattle.pair_verdict.proofs.deciding.decide_sides.Goals as goal

pub loop-asked-smaller : goal.loop-asked-smaller
loop-asked-smaller c =
    fewer_left (first_placed c.args.sides.now) (second_placed c.args.sides.now) c.loop-asked.asked c.in_ok-asked-in-Broken.asked
    c.in_ok-asked-in-Broken.ensures.are c.in_ok-asked-in-Broken.ensures.more
