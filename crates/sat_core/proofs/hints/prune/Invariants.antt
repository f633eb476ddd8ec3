use Rattle.std.proofs.Common.{◌≡◌, true, length, vec_len}
use Rattle.std.specs.Prelude.{reverse}
use Rattle.std.specs.List.{list_all}
use Rattle.sat_core.specs.Kept.{names}
use Rattle.sat_core.proofs.Backwards.{IsBack}
use Rattle.sat_core.proofs.hints.prune.Given as goal

abbrev pub invariant-loop-step : goal.invariant-loop-step
invariant-loop-step l = record {
  back : IsBack l.clauses l.fn.steps.items l.clause l.steps.items l.needed l.hints.items;
  named : list_all (names (length l.clauses)) (reverse l.hints.items) ≡ true;
}

abbrev pub decreases-loop-step : goal.decreases-loop-step
decreases-loop-step l = vec_len l.steps
