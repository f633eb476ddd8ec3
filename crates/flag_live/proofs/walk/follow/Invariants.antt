use Rattle.std.proofs.Common.{ℕ, ◌≤◌, ◌<◌, List, length, get_or}
use Rattle.flag_live.specs.Reachable.{IsMarked, Extends, IsWalk, Reaches}
use Rattle.flag_live.proofs.walk.follow.Given as goal

abbrev pub invariant-loop-i : goal.invariant-loop-i
invariant-loop-i l = record {
  extends : Extends l.initial.marks.marked.items l.initial.marks.queue.items l.marks.marked.items l.marks.queue.items;
  led : (k : ℕ) (d : ℕ × ℕ) → l.first ≤ k → k < l.i → (get_or l.edges k d).1 < length l.initial.marks.marked.items →
      IsMarked l.marks.marked.items (get_or l.edges k d).1;
  walk :
      (starts : List ℕ) → IsWalk l.edges starts l.initial.marks.marked.items l.initial.marks.queue.items →
      Reaches (length l.initial.marks.marked.items) l.edges starts l.vertex
      → IsWalk l.edges starts l.marks.marked.items l.marks.queue.items;
}
