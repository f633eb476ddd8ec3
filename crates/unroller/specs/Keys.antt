-- Points of a frame by number.
use Rattle.std.specs.Prelude.{ℕ, suc, ◌≡◌, ◌+◌, ◌-◌, ◌*◌, ◌/◌, ◌%◌, ◌<◌, ◌≤◌, ◌==◌, not, nat_le, if◌then◌else◌, Bool, true, false, List, [], ◌∷◌, Option, Some, None, Contains, length, slice_index}
use Rattle.frame_spec.specs.Frames.{Frame}
use Rattle.frame_spec.specs.FramePoints as spec
use Rattle.frame_spec.specs.FramePoints.{Anchor, IsAnchor, IsPoint}
use Rattle.graph_nodes.specs.declared.nodes.Graph.{Graph}
use Rattle.graph_nodes.specs.Graphs.{IsGraph}
use Rattle.program_points.specs.declared.values.Frame as stack
use Rattle.program_points.specs.declared.values.FramePoint.{FramePoint}
use Rattle.program_points.specs.declared.values.Root.{Root}
use Rattle.program_points.specs.declared.values.End.{End}
use Rattle.program_points.specs.Listed.{anchor_of, AreCuts, HasOneWay}
use Rattle.program_points.specs.Tables.{is_among, is_root_within, is_stepped, stack_at, stacks_of}
use Rattle.question_form.specs.declared.unrolled.Aim.{Aim}
use Rattle.question_form.specs.declared.unrolled.Aim.TheVariants.{OnTo, IntoHead, Outward, OverLast}
use Rattle.unroller.specs.Places.{IsGroup}

-- The number of a point: by the number of its root, then by its backward transfers, then by its address, then by the number of its stack, and last by whether a
-- contract step is made there.
abbrev pub key_of : (root turns at stack : ℕ) → (contract : Bool) → ℕ
key_of root turns at stack contract =
    root * 79228162514264337593543950336 + turns * 18446744073709551616 + at * 4294967296 + stack * 2 + (if contract then 1 else 0)

-- what a number says of its point
abbrev pub root_of : ℕ → ℕ
root_of key = key / 79228162514264337593543950336

abbrev pub turns_of : ℕ → ℕ
turns_of key = key / 18446744073709551616 % 4294967296

abbrev pub address_of : ℕ → ℕ
address_of key = key / 4294967296 % 4294967296

abbrev pub stack_of : ℕ → ℕ
stack_of key = key % 4294967296 / 2

abbrev pub contract_of : ℕ → Bool
contract_of key = key % 2 == 1

-- a contract step is made at its point, or none is
abbrev pub is_of : (contract : Bool) → ℕ → Bool
is_of true key = contract_of key
is_of false key = not (contract_of key)

-- the number of where a segment begins: 0 for the entry, and for a head by its address and the number of its stack
abbrev pub head_number : Option Root → ℕ
head_number None = 0
head_number (Some r) = r.at * 18446744073709551616 + r.stack + 1

abbrev pub head_of : ℕ → Option Root
head_of n = if n == 0 then None else Some (record { stack = (n - 1) % 18446744073709551616; at = (n - 1) / 18446744073709551616 % 4294967296 })

-- the number of where the segment of a point begins
abbrev pub segment_of : FramePoint → ℕ
segment_of q = head_number q.root

-- the first place of a number among numbers
abbrev pub place_in : List ℕ → ℕ → ℕ
place_in [] x = 0
place_in (y ∷ ys) x = if y == x then 0 else suc (place_in ys x)

-- the number of a listed point, by the numbers of where segments begin
abbrev pub point_key : (segments : List ℕ) → FramePoint → ℕ
point_key segments q = key_of (place_in segments (segment_of q)) q.turns q.at q.stack q.contract

-- The number of the point at an end of a point, which is of the same segment; by the addresses of the contracts that are stepped over, and the stack behind the
-- point's call, where that links.
abbrev pub target_key : (stepped : List ℕ) → (linked : Option ℕ) → ℕ → End → ℕ
target_key stepped linked own e =
    key_of (root_of own) (if nat_le e.at (address_of own) then turns_of own + 1 else turns_of own) e.at e.stack (is_stepped stepped linked e)

-- where the segment of a root begins
abbrev pub anchor_by : List stack.Frame → (segments : List ℕ) → ℕ → Anchor
anchor_by frames segments n = anchor_of (stacks_of frames) (head_of (slice_index segments n))

-- the point of a number
abbrev pub point_of : List stack.Frame → (segments : List ℕ) → ℕ → spec.Point
point_of frames segments key = record {
  anchor = anchor_by frames segments (root_of key);
  turns = turns_of key;
  contract = contract_of key;
  stack = stack_at frames (stack_of key);
  at = address_of key;
}

-- Where an edge to the point of a number leads, by the numbers of all points: to a head, with its part of the assert lines by address; on to its place; or over
-- the last backward transfer where it is none of them.
abbrev pub IsAimAt : (heads : List ℕ) → (asserts : List (ℕ × ℕ)) → (keys : List ℕ) → ℕ → Aim → Type 0
IsAimAt heads asserts keys key (OnTo j) = (is_among heads (address_of key) ≡ false) × (j < length keys) × (slice_index keys j ≡ key)
IsAimAt heads asserts keys key (IntoHead at bounds) = (is_among heads (address_of key) ≡ true) × (at ≡ address_of key) × IsGroup asserts at bounds
IsAimAt heads asserts keys key Outward = ⊥
IsAimAt heads asserts keys key OverLast = (is_among heads (address_of key) ≡ false) × (¬ Contains keys key)

-- the frame is that of a program with this graph and this address; these are its heads, and the addresses of the contracts that it steps over
pub record IsFrameOf (f : Frame) (g : Graph) (heads stepped : List ℕ) (entry : ℕ) : Type 0 where
  pub graph : IsGraph f.program g
  pub begins : f.program.entry ≡ entry
  pub way : HasOneWay f.program
  pub cuts : AreCuts f heads stepped

-- the numbers are those of where the segments of a frame begin, rising, by stacks that are numbered
pub record AreSegments (f : Frame) (k : ℕ) (frames : List stack.Frame) (segments : List ℕ) : Type 0 where
  pub all : (anchor : Anchor) → IsAnchor f k anchor → (n : ℕ) × (n < length segments) × (anchor_by frames segments n ≡ anchor)
  pub only : (n : ℕ) → n < length segments → IsAnchor f k (anchor_by frames segments n)
  pub rise : (m n : ℕ) → m < n → n < length segments → slice_index segments m < slice_index segments n
  pub fits : (n : ℕ) → n < length segments → is_root_within (length frames) (head_of (slice_index segments n))
  pub exact : (n : ℕ) → n < length segments → head_number (head_of (slice_index segments n)) ≡ slice_index segments n

-- the numbers are those of all points, rising, by stacks that are numbered
pub record AreKeys (f : Frame) (k : ℕ) (frames : List stack.Frame) (segments keys : List ℕ) : Type 0 where
  pub all : (q : spec.Point) → IsPoint f k q → (i : ℕ) × (i < length keys) × (point_of frames segments (slice_index keys i) ≡ q)
  pub only : (i : ℕ) → i < length keys → IsPoint f k (point_of frames segments (slice_index keys i))
  pub rise : (i j : ℕ) → i < j → j < length keys → slice_index keys i < slice_index keys j
  pub fits : (i : ℕ) → i < length keys → stack_of (slice_index keys i) ≤ length frames
  pub few : (i : ℕ) → i < length keys → turns_of (slice_index keys i) ≤ k
  pub rooted : (i : ℕ) → i < length keys → root_of (slice_index keys i) < length segments
