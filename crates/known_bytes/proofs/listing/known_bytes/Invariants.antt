use Rattle.std.proofs.Common.{◌<◌, ◌-◌, ◌^◌, map}
use Rattle.notes_value.specs.NoteViews.{fixed_of}
use Rattle.known_bytes.specs.Runs.{HasKnownTo}
use Rattle.known_bytes.proofs.listing.known_bytes.Given as goal

abbrev pub invariant-loop-runs : goal.invariant-loop-runs
invariant-loop-runs l = record {
  known : HasKnownTo l.image (map fixed_of l.notes.fixed.items) l.at l.runs.items l.count;
  below : l.at < 2 ^ 32;
}

abbrev pub decreases-loop-runs : goal.decreases-loop-runs
decreases-loop-runs l = 2 ^ 32 - l.at
