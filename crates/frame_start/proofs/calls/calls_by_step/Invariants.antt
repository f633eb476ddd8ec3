use Rattle.std.proofs.Common.{◌≡◌, ◌≤◌}
use Rattle.bit_blast.specs.Steps.{count_met}
use Rattle.frame_start.specs.Met.{call_steps, is_gift, is_met_of}
use Rattle.frame_start.proofs.calls.calls_by_step.Given as goal

abbrev pub invariant-loop-i : goal.invariant-loop-i
invariant-loop-i l = record {
  listed : l.listed.items ≡ call_steps (is_met_of l.points l.root l.met l.words) (is_gift l.points) l.i;
  step : l.step ≡ count_met (is_met_of l.points l.root l.met l.words) l.i;
  few : l.step ≤ l.i;
}
