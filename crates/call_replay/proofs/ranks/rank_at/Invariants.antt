use Rattle.std.proofs.Common.{◌≡◌, ◌≤◌, ◌+◌, ◌-◌, drop, length, map}
use Rattle.frame_texts_spec.specs.CallReplays.{rank_at}
use Rattle.notes_value.specs.FrameViews.{contract_of}
use Rattle.call_replay.proofs.ranks.rank_at.Given as goal

-- no contract before is of the address
abbrev pub invariant-loop-rank : goal.invariant-loop-rank
invariant-loop-rank l = record {
  within : l.rank ≤ length l.contracts;
  before : l.rank + rank_at (map contract_of (drop l.rank l.contracts)) l.at ≡ rank_at (map contract_of l.contracts) l.at;
}

abbrev pub decreases-loop-rank : goal.decreases-loop-rank
decreases-loop-rank l = length l.contracts - l.rank
