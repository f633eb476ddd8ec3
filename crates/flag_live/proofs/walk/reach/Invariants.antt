use Rattle.std.proofs.Common.{◌≡◌, ℕ, ◌<◌, ◌-◌, length, get_or}
use Rattle.std.specs.Prelude.{Contains}
use Rattle.flag_live.specs.Reachable.{IsMarked, IsWalk, IsFollowed}
use Rattle.flag_live.proofs.walk.reach.Given as goal

abbrev pub invariant-loop-start : goal.invariant-loop-start
invariant-loop-start l = record {
  size : length l.marks.marked.items ≡ l.count;
  walk : IsWalk l.edges l.starts l.marks.marked.items l.marks.queue.items;
  begun : (k d : ℕ) → k < l.start-index → get_or l.starts k d < l.count → IsMarked l.marks.marked.items (get_or l.starts k d);
}

abbrev pub invariant-loop-next : goal.invariant-loop-next
invariant-loop-next l = record {
  size : length l.marks.marked.items ≡ l.count;
  walk : IsWalk l.edges l.starts l.marks.marked.items l.marks.queue.items;
  begun : (v : ℕ) → Contains l.starts v → v < l.count → IsMarked l.marks.marked.items v;
  followed : IsFollowed l.edges l.marks.marked.items l.marks.queue.items l.next;
}

abbrev pub decreases-loop-next : goal.decreases-loop-next
decreases-loop-next l = l.count - l.next
