-- How far the listing of points has come.
use Rattle.std.specs.Prelude.{ℕ, ◌≡◌, ◌<◌, ◌≤◌, true, false, List, Some, None, Contains, length, slice_get, ◌↔◌, ◌⊎◌}
use Rattle.std.specs.List.{list_any}
use Rattle.bilv_spec.specs.Run.{Program}
use Rattle.machine_spec.specs.Machine.{Row, IsAtPlace}
use Rattle.bilv_spec.specs.Points.{ToAddress, edges, file_row, fall_ends, jump_ends}
use Rattle.bilv_spec.specs.Points as points
use Rattle.program_points.specs.declared.values.Frame.{Frame}
use Rattle.frame_spec.specs.Frames as frames
use Rattle.frame_spec.specs.Frames.{is_head}
use Rattle.frame_spec.specs.FramePoints.{IsPoint, frame_edges, end_of}
use Rattle.program_points.specs.declared.values.FramePoint.{FramePoint}
use Rattle.program_points.specs.Listed.{frame_point_of, HasOneWay}
use Rattle.program_points.specs.Tables.{frame, stack_at, stacks_of, frame_at, end, listed, return_end, ends_of, jumps_of, is_call, entry_point, head_point, target, linked, is_among, is_cut, IsCalled, AreAdded}
use Rattle.graph_nodes.specs.declared.nodes.Node.{Node}
use Rattle.graph_nodes.specs.declared.nodes.Graph.{Graph}
use Rattle.graph_nodes.specs.Graphs.{addresses_of, IsNode}
use Rattle.graph_nodes.specs.Places.{AreRising}
use Rattle.graph_nodes.specs.declared.nodes.Letter.TheVariants.{Next, Call}
use Rattle.graph_nodes.specs.declared.nodes.Successor.{Successor}
use Rattle.word_spec.specs.Words.{add}
use Rattle.program_points.specs.declared.values.End.{End}

-- the points are the first ones of a frame: the entry's, and where that is a head, the one of its root
pub record AreFirst (heads : List ℕ) (entry : ℕ) (points : List FramePoint) : Type 0 where
  pub entry_in : Contains points (entry_point entry)
  pub head_in : is_among heads entry ≡ true → Contains points (head_point (end 0 entry))
  pub only : (q : FramePoint) → Contains points q → (q ≡ entry_point entry) ⊎ ((is_among heads entry ≡ true) × (q ≡ head_point (end 0 entry)))

-- The points are points of the frame, with the first ones; where there are no more than may be, what the first n lead to is among them.
pub record Walk (f : frames.Frame) (k max : ℕ) (frames : List Frame) (points : List FramePoint) (n : ℕ) : Type 0 where
  pub reached : (q : FramePoint) → Contains points q → IsPoint f k (frame_point_of (stacks_of frames) q)
  pub first_in : Contains points (entry_point f.program.entry)
  pub head_in : is_head f f.program.entry ≡ true → Contains points (head_point (end 0 f.program.entry))
  pub closed : (i : ℕ) (q : FramePoint) (s : List ℕ) (a : ℕ) → length points ≤ max → i < n → slice_get points i ≡ Some q →
      Contains (frame_edges f (frame_point_of (stacks_of frames) q)) (ToAddress s a) → (end_of f (frame_point_of (stacks_of frames) q) s a).turns ≤ k →
      (t : FramePoint) × Contains points t × (frame_point_of (stacks_of frames) t ≡ end_of f (frame_point_of (stacks_of frames) q) s a)

-- What expanding a point comes to: nothing, where the graph has no node of its address, or the entry's segment ends there; the return of a contract step; or
-- the points at the ends of the point at its node.
pub data IsStep (g : Graph) (heads stepped : List ℕ) (k max : ℕ) (point : FramePoint) (old_frames frames : List Frame) (old points : List FramePoint)
    : Type 0 where
  nowhere : (AreRising g.nodes.items → ¬ Contains (addresses_of g) point.at) → point.contract ≡ false → frames ≡ old_frames → points ≡ old →
      IsStep g heads stepped k max point old_frames frames old points
  stops : is_cut heads point ≡ true → point.contract ≡ false → frames ≡ old_frames → points ≡ old →
      IsStep g heads stepped k max point old_frames frames old points
  returns : point.contract ≡ true → frames ≡ old_frames →
      AreAdded (target heads stepped None point) k max (listed (return_end g.narrow (frame_at frames point.stack))) old points →
      IsStep g heads stepped k max point old_frames frames old points
  somewhere : (n : Node) (called : ℕ) → is_cut heads point ≡ false → point.contract ≡ false → n.at ≡ point.at → Contains g.nodes.items n →
      IsCalled n point.stack old_frames frames called → (list_any (λ s. is_call s.letter) n.successors.items ≡ false → called ≡ 0) →
      AreAdded (target heads stepped (linked n.links called) point) k max (ends_of g.narrow n (frame_at frames point.stack) point.stack called) old points →
      IsStep g heads stepped k max point old_frames frames old points

-- each frame stands on a stack of a lower number
abbrev pub IsLow : List Frame → Type 0
IsLow frames = (i : ℕ) (f : Frame) → slice_get frames i ≡ Some f → f.below ≤ i

-- the ends of a point at its node, by the numbers of stacks, are its edges to addresses; the number behind a call of the node is that of the stack which the
-- call pushes
abbrev pub EndsAreEdges : Type 0
EndsAreEdges = (p : Program) (n : Node) (frames : List Frame) (turns stack called : ℕ) → IsNode p n → HasOneWay p → IsLow frames → stack ≤ length frames →
    ((x : Successor) → Contains n.successors.items x → x.letter ≡ Call → frame_at frames called ≡ Some (frame (add 32 n.at n.length) stack)) → (s : List ℕ) (a : ℕ) →
    Contains (edges p (record { turns = turns; stack = stack_at frames stack; at = n.at })) (ToAddress s a)
    ↔ ((e : End) × Contains (ends_of p.machine.narrow n (frame_at frames stack) stack called) e × (stack_at frames e.stack ≡ s) × (e.at ≡ a))

-- Which ends of a point at its node are taken by going on, and which by a jump: going on leads to the node's next address with the point's stack, and jumps
-- lead to the ends by the other successors and by the return. One end may be both.
abbrev pub EndsAreWays : Type 0
EndsAreWays = (p : Program) (n : Node) (frames : List Frame) (turns stack called : ℕ) (row : Row) → IsNode p n → HasOneWay p → IsLow frames →
    stack ≤ length frames →
    ((x : Successor) → Contains n.successors.items x → x.letter ≡ Call → frame_at frames called ≡ Some (frame (add 32 n.at n.length) stack)) →
    file_row p n.at ≡ Some row →
    (s : List ℕ) (a : ℕ) → IsAtPlace p.machine.narrow a →
    let point : points.Point = record { turns = turns; stack = stack_at frames stack; at = n.at } in
    (Contains (fall_ends point row (row.successors n.at)) (ToAddress s a)
    ↔ ((s ≡ stack_at frames stack) × Contains n.successors.items (record { letter = Next; to = a })))
    × (Contains (jump_ends p point row (row.successors n.at)) (ToAddress s a)
    ↔ ((e : End) × Contains (jumps_of p.machine.narrow n (frame_at frames stack) stack called) e × (stack_at frames e.stack ≡ s) × (e.at ≡ a)))
