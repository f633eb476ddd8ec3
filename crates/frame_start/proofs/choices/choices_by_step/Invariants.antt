use Rattle.std.proofs.Common.{◌≤◌, slice_index}
use Rattle.bit_blast.specs.Steps.{AreChoices}
use Rattle.frame_start.specs.Met.{is_met_of}
use Rattle.frame_start.proofs.choices.choices_by_step.Given as goal

abbrev pub invariant-loop-i : goal.invariant-loop-i
invariant-loop-i l = record {
  chosen : AreChoices (is_met_of l.points l.root l.met l.words) (slice_index l.choices) l.i l.step l.listed.items;
  few : l.step ≤ l.i;
}
