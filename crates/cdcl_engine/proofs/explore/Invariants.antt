use Rattle.std.specs.Prelude.{◌-◌}
use Rattle.cdcl_engine.proofs.explore.Given as goal

abbrev pub decreases-loop-learned : goal.decreases-loop-learned
decreases-loop-learned l = l.turns - l.learned
