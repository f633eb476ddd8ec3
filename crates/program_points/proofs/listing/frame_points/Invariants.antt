use Rattle.std.proofs.Common.{◌≡◌, ◌≤◌, ◌+◌, ◌-◌, length}
use Rattle.frame_spec.specs.Frames as frames
use Rattle.graph_nodes.specs.Graphs.{IsGraph}
use Rattle.program_points.specs.Listed.{AreCuts, HasOneWay}
use Rattle.program_points.specs.Tables.{IsTable, IsListed}
use Rattle.program_points.specs.Walks.{Walk}
use Rattle.program_points.proofs.listing.frame_points.Given as goal

abbrev pub invariant-listing : goal.invariant-listing
invariant-listing l = record {
  table : IsTable l.stacks.frames.items l.stacks.numbers;
  listed : IsListed l.k (length l.stacks.frames.items) l.found.points.items l.found.seen;
  place : l.next ≤ length l.found.points.items;
  low : l.next ≤ l.max + 1;
  few : length l.stacks.frames.items ≤ l.next;
  walk : (f : frames.Frame) → IsGraph f.program l.graph → f.program.entry ≡ l.entry → HasOneWay f.program → AreCuts f l.cuts.heads.now l.cuts.stepped.now →
      Walk f l.k l.max l.stacks.frames.items l.found.points.items l.next;
}

abbrev pub decreases-listing : goal.decreases-listing
decreases-listing l = l.max + 2 - l.next
