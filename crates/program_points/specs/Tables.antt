-- Tables of stacks, the ends of a point, and points that are added.
use Rattle.std.specs.Prelude.{ℕ, zero, suc, nat_le, ◌↔◌, ◌≡◌, ◌≢◌, ◌+◌, ◌<◌, ◌≤◌, ◌==◌, ◌&&◌, ◌++◌, ◌⊎◌, not, filter, Bool, true, false, List, [], ◌∷◌, Option, Some, None, is_none, Contains, length, slice_get, slice_index_or, if◌then◌else◌}
use Rattle.std.specs.List.{filter_map, list_any}
use Rattle.std.specs.BTreeMap.{BTreeMap}
use Rattle.std.specs.BTreeMap as tree
use Rattle.std.specs.BTreeSet.{BTreeSet, contains}
use Rattle.word_spec.specs.Words.{add}
use Rattle.machine_spec.specs.Machine.{is_place}
use Rattle.graph_nodes.specs.declared.nodes.Letter.{Letter}
use Rattle.graph_nodes.specs.declared.nodes.Letter.TheVariants.{Next, Jump, Call, Return}
use Rattle.graph_nodes.specs.declared.nodes.Successor.{Successor}
use Rattle.graph_nodes.specs.declared.nodes.Node.{Node}
use Rattle.std.specs.Ordering.{nat_cmp, bool_cmp, ordering_then}
use Rattle.std.specs.Option.{option_cmp}
use Rattle.std.specs.declared.cmp.Ordering.{Ordering}
use Rattle.program_points.specs.declared.values.Frame.{Frame}
use Rattle.program_points.specs.declared.values.FramePoint.{FramePoint}
use Rattle.program_points.specs.declared.values.Root.{Root}
pub use Rattle.program_points.specs.declared.values.End.{End}

-- the order of the keys of stacks
abbrev pub pair_cmp : ℕ × ℕ → ℕ × ℕ → Ordering
pair_cmp x y = ordering_then (nat_cmp x.0 y.0) (nat_cmp x.1 y.1)

-- a frame
abbrev pub frame : ℕ → ℕ → Frame
frame top below = record { top = top; below = below }

-- each frame stands on a stack of a lower number, and the table has the number of each frame and no other
pub record IsTable (frames : List Frame) (numbers : BTreeMap (ℕ × ℕ) ℕ) : Type 0 where
  pub below : (i : ℕ) (f : Frame) → slice_get frames i ≡ Some f → f.below ≤ i
  pub known : (i : ℕ) (f : Frame) → slice_get frames i ≡ Some f → tree.get pair_cmp numbers (f.top, f.below) ≡ Some (i + 1)
  pub only : (t b n : ℕ) → tree.get pair_cmp numbers (t, b) ≡ Some n → (i : ℕ) × (n ≡ i + 1) × (slice_get frames i ≡ Some (frame t b))

-- the frames are the old ones, or have the pushed one behind them, and the number's is the pushed one
pub record IsPushed (old new : List Frame) (top below number : ℕ) : Type 0 where
  pub rest : List Frame
  pub begins : new ≡ old ++ rest
  pub only : (rest ≡ []) ⊎ (rest ≡ frame top below ∷ [])
  pub index : ℕ
  pub number_is : number ≡ index + 1
  pub frame_is : slice_get new index ≡ Some (frame top below)

-- the stack of each number, behind those of some numbers
abbrev pub stacks_from : List (List ℕ) → List Frame → List (List ℕ)
stacks_from known [] = known
stacks_from known (f ∷ rest) = stacks_from (known ++ (f.top ∷ slice_index_or known f.below []) ∷ []) rest

-- the stack of each number
unfoldable pub stacks_of : List Frame → List (List ℕ)
stacks_of frames = stacks_from ([] ∷ []) frames

-- the stack of a number
abbrev pub stack_at : List Frame → ℕ → List ℕ
stack_at frames n = slice_index_or (stacks_of frames) n []

-- the frame of a stack by number, which the empty one does not have
abbrev pub frame_at : List Frame → ℕ → Option Frame
frame_at frames zero = None
frame_at frames (suc i) = slice_get frames i

-- the stack's top is the address
abbrev pub has_top : Option Frame → ℕ → Bool
has_top None a = false
has_top (Some f) a = f.top == a

-- an end
abbrev pub end : ℕ → ℕ → End
end stack at = record { stack = stack; at = at }

-- the end of a jump, which is left out where it is the return
abbrev pub jump_end : Bool → ℕ → ℕ → Option End
jump_end true stack a = None
jump_end false stack a = Some (end stack a)

-- the end of a letter and an address: the stack of the point and the one behind a call are given by number
abbrev pub letter_end : Bool → Option Frame → (stack called : ℕ) → Letter → ℕ → Option End
letter_end returns f stack called Next a = Some (end stack a)
letter_end returns f stack called Jump a = jump_end (returns && has_top f a) stack a
letter_end returns f stack called Call a = Some (end called a)
letter_end returns f stack called Return a = None

-- the end of a successor
abbrev pub successor_end : Bool → Option Frame → (stack called : ℕ) → Successor → Option End
successor_end returns f stack called s = letter_end returns f stack called s.letter s.to

-- the end of a return to the top of a stack, where a row can stand there
abbrev pub return_end : (narrow : Bool) → Option Frame → Option End
return_end narrow None = None
return_end narrow (Some f) = if is_place narrow f.top then Some (end f.below f.top) else None

-- the end of a return, where the row may return
abbrev pub back_end : (narrow returns : Bool) → Option Frame → Option End
back_end narrow true f = return_end narrow f
back_end narrow false f = None

-- the list of what there is
abbrev pub listed : Option End → List End
listed None = []
listed (Some e) = e ∷ []

-- the ends by successors and by a return, where the row may return
abbrev pub ends_from : (narrow returns : Bool) → List Successor → Option Frame → (stack called : ℕ) → List End
ends_from narrow returns successors f stack called =
    filter_map (successor_end returns f stack called) successors ++ listed (back_end narrow returns f)

-- the ends of a point at a node, but for the exit
abbrev pub ends_of : (narrow : Bool) → Node → Option Frame → (stack called : ℕ) → List End
ends_of narrow n f stack called = ends_from narrow n.returns n.successors.items f stack called

-- the letter is that of the next address
abbrev pub is_next : Letter → Bool
is_next Next = true
is_next _ = false

-- the end that a successor is, if it is not the next address
abbrev pub way_end : Bool → Option Frame → (stack called : ℕ) → Successor → Option End
way_end returns f stack called s = if is_next s.letter then None else successor_end returns f stack called s

-- the ends of a point at a node by jumps, calls and returns
abbrev pub jumps_of : (narrow : Bool) → Node → Option Frame → (stack called : ℕ) → List End
jumps_of narrow n f stack called = ends_from narrow n.returns (filter (λ s. not (is_next s.letter)) n.successors.items) f stack called

-- the letter is a call's
abbrev pub is_call : Letter → Bool
is_call Call = true
is_call _ = false

-- the frames are the old ones, or have that of the stack behind a call of the node behind them, and where the node has a call the number is that stack's
pub record IsCalled (n : Node) (stack : ℕ) (old new : List Frame) (number : ℕ) : Type 0 where
  pub rest : List Frame
  pub begins : new ≡ old ++ rest
  pub only : (rest ≡ []) ⊎ (rest ≡ frame (add 32 n.at n.length) stack ∷ [])
  pub pushes : (x : Successor) → Contains n.successors.items x → x.letter ≡ Call → frame_at new number ≡ Some (frame (add 32 n.at n.length) stack)

-- a root as a part of a key
abbrev pub root_key : Option Root → Option (ℕ × ℕ)
root_key None = None
root_key (Some r) = Some (r.stack, r.at)

-- what tells a point from others
abbrev pub Key : Type 0
Key = ℕ × ℕ × ℕ × Bool × Option (ℕ × ℕ)

abbrev pub key_of : FramePoint → Key
key_of q = (q.turns, q.stack, q.at, q.contract, root_key q.root)

-- the order of the keys of points
abbrev pub key_cmp : Key → Key → Ordering
key_cmp x y =
    ordering_then (ordering_then (ordering_then (ordering_then (nat_cmp x.0 y.0) (nat_cmp x.1 y.1)) (nat_cmp x.2 y.2)) (bool_cmp x.3 y.3))
    (option_cmp pair_cmp x.4 y.4)

-- the stack of a root has a number of at most so many
abbrev pub is_root_within : ℕ → Option Root → Type 0
is_root_within stacks None = Unit {0}
is_root_within stacks (Some r) = r.stack ≤ stacks

-- a point has at most k backward transfers, and its stacks have numbers
pub record IsWithin (k stacks : ℕ) (q : FramePoint) : Type 0 where
  pub stack : q.stack ≤ stacks
  pub turns : q.turns ≤ k
  pub root : is_root_within stacks q.root

-- the points are each once, and the set has their keys; their stacks have numbers, and they have at most k backward transfers
pub record IsListed (k stacks : ℕ) (points : List FramePoint) (seen : BTreeSet Key) : Type 0 where
  pub has : (q : FramePoint) → (contains key_cmp seen (key_of q) ≡ true) ↔ Contains points q
  pub once : (i j : ℕ) → i < j → j < length points → slice_get points i ≢ slice_get points j
  pub within : (q : FramePoint) → Contains points q → IsWithin k stacks q

-- the list has the address
abbrev pub is_among : List ℕ → ℕ → Bool
is_among list a = list_any (λ x. x == a) list

-- the first point of the root at a head
abbrev pub head_point : End → FramePoint
head_point e = record { root = Some (record { stack = e.stack; at = e.at }); turns = 0; contract = false; stack = e.stack; at = e.at }

-- the first point of the entry's root
abbrev pub entry_point : ℕ → FramePoint
entry_point entry = record { root = None; turns = 0; contract = false; stack = 0; at = entry }

-- the point of the same root at an end
abbrev pub point_to : (contract : Bool) → FramePoint → End → FramePoint
point_to contract q e =
    record { root = q.root; turns = (if nat_le e.at q.at then q.turns + 1 else q.turns); contract = contract; stack = e.stack; at = e.at }

-- the stack behind a call of a row, where the row links: there is no call where its number is 0
abbrev pub linked : (links : Bool) → (called : ℕ) → Option ℕ
linked links called = if links && not (called == 0) then Some called else None

-- the call to an end is stepped over
abbrev pub is_stepped : (stepped : List ℕ) → (linked : Option ℕ) → End → Bool
is_stepped stepped None e = false
is_stepped stepped (Some called) e = (e.stack == called) && is_among stepped e.at

-- the point at an end
abbrev pub target : (heads stepped : List ℕ) → (linked : Option ℕ) → FramePoint → End → FramePoint
target heads stepped linked q e = if is_among heads e.at then head_point e else point_to (is_stepped stepped linked e) q e

-- the entry's root ends at the point
abbrev pub is_cut : (heads : List ℕ) → FramePoint → Bool
is_cut heads q = is_none q.root && is_among heads q.at

-- the points begin with the old ones, and the only other one is the given one, which is among them
pub record IsAdded (point : FramePoint) (old new : List FramePoint) : Type 0 where
  pub rest : List FramePoint
  pub begins : new ≡ old ++ rest
  pub has : Contains new point
  pub only : (q : FramePoint) → Contains new q → Contains old q ⊎ (q ≡ point)

-- the points begin with the old ones, and the others are those at ends; where there are no more than may be, none is missing
pub record AreAdded (target : End → FramePoint) (k max : ℕ) (ends : List End) (old new : List FramePoint) : Type 0 where
  pub rest : List FramePoint
  pub begins : new ≡ old ++ rest
  pub only : (q : FramePoint) → Contains new q → Contains old q ⊎ ((e : End) × Contains ends e × (q ≡ target e) × (q.turns ≤ k))
  pub all : (e : End) → length new ≤ max → Contains ends e → (target e).turns ≤ k → Contains new (target e)
