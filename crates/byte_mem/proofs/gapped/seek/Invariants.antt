use Rattle.std.proofs.Common.{◌≡◌, ◌≤◌, ◌+◌, ◌-◌, vec_len, vec_capacity}
use Rattle.byte_mem.specs.Gaps.{entries_of}
use Rattle.byte_mem.proofs.gapped.seek.Given as goal

abbrev pub invariant-loop-g : goal.invariant-loop-g
invariant-loop-g l = record {
  entries : entries_of l.g ≡ entries_of l.fn.g;
  total : vec_len l.g.below + vec_len l.g.above ≡ vec_len l.fn.g.below + vec_len l.fn.g.above;
  capacity_below : vec_capacity l.fn.g.below ≤ vec_capacity l.g.below;
  capacity_above : vec_capacity l.fn.g.above ≤ vec_capacity l.g.above;
}

abbrev pub decreases-loop-g : goal.decreases-loop-g
decreases-loop-g l = vec_len l.g.below

abbrev pub invariant-loop-g-2 : goal.invariant-loop-g-2
invariant-loop-g-2 l = record {
  entries : entries_of l.g ≡ entries_of l.fn.g;
  total : vec_len l.g.below + vec_len l.g.above ≡ vec_len l.fn.g.below + vec_len l.fn.g.above;
  capacity_below : vec_capacity l.fn.g.below ≤ vec_capacity l.g.below;
  capacity_above : vec_capacity l.fn.g.above ≤ vec_capacity l.g.above;
  place : vec_len l.g.below ≤ l.place;
  within : l.place ≤ vec_len l.fn.g.below + vec_len l.fn.g.above;
}

abbrev pub decreases-loop-g-2 : goal.decreases-loop-g-2
decreases-loop-g-2 l = l.place - vec_len l.g.below
