-- What stands at the places of an unrolled frame.
use Rattle.std.specs.Prelude.{ℕ, ◌≡◌, ◌≤◌, ◌<◌, Bool, true, false, List, ◌∷◌, Some, None, filter, sum_by, map, length, slice_index, slice_index_or}
use Rattle.std.specs.List.{AllWithin}
use Rattle.machine_spec.specs.Machine.{Row}
use Rattle.machine_spec.specs.MachineLaws.{IsLawful, IsFitted}
use Rattle.machine_spec.specs.StateText.{Layout}
use Rattle.machine_spec.specs.Bil.{Bank}
use Rattle.bilv_spec.specs.Run.{Program, fetchable}
use Rattle.bilv_spec.specs.Points.{file_row, file_word, row_price, loads_at, stores_at}
use Rattle.walk_spec.specs.Unrolled.{is_register_of, is_flag_of}
use Rattle.walk_spec.specs.Unrolling.{row_draws}
use Rattle.frame_spec.specs.Frames.{Contract, Frame, contract_at}
use Rattle.frame_spec.specs.FramePoints.{is_cut}
use Rattle.frame_spec.specs.FrameUnrolling.{AreAlong, IsPlace, checks_of}
use Rattle.graph_nodes.specs.Graphs.{row_length}
use Rattle.question_form.specs.declared.unrolled.Code.{Code}
use Rattle.question_form.specs.declared.unrolled.Deed.{Deed}
use Rattle.program_points.specs.Tables.{stack_at}
use Rattle.question_form.specs.declared.unrolled.Deed.TheVariants.{Row as RowDeed, Arrival, Contract as ContractDeed}
use Rattle.question_form.specs.declared.unrolled.Edge.{Edge}
use Rattle.question_form.specs.declared.unrolled.Point as declared
use Rattle.question_form.specs.declared.unrolled.Unrolled.{Unrolled}
use Rattle.question_form.specs.FrameViews.{anchor_at, checks_between, edge_of, frame_unrolled_of, is_judged, own_contract, point_by, stepped_at}
use Rattle.question_form.specs.Views.{unrolled_of}
use Rattle.unroller.specs.Rows.{IsListedAt}

-- The code is that of its address, whatever its assert lines are: what the file gives there, the list of the row, without assignments of flags that are
-- not live, and the row's cost; and the row is lawful.
pub record IsRowCode (p : Program) (bank : Bank) (contracts : List Contract) (c : Code) : Type 0 where
  pub length : c.length ≡ row_length (file_row p c.at)
  pub fetchable : c.fetchable ≡ fetchable p (file_word p c.at) c.at
  pub list : IsListedAt p bank contracts (file_row p c.at) c.at c.list
  pub draws : c.draws ≡ row_draws (file_row p c.at)
  pub row : c.row ≡ row_price (file_row p c.at)
  pub loads : c.loads ≡ loads_at p c.at (file_row p c.at)
  pub stores : c.stores ≡ stores_at (file_row p c.at)
  pub fit : (row : Row) → file_row p c.at ≡ Some row → IsLawful row

-- the code is that of its address, with the checks by the assert lines there that are judged at the point
pub record IsCode (f : Frame) (bank : Bank) (contracts : List Contract) (u : Unrolled) (q : declared.Point) (c : Code) (edges : List Edge) : Type 0 where
  pub own : IsRowCode f.program bank contracts c
  pub checks : filter (is_judged (anchor_at u q.root)) (checks_between u c.asserts) ≡ checks_of f (point_by u q c edges).point

-- what is done at a point: nothing, where the segment of the entry ends there
abbrev pub deed_by : (arrival : Bool) → Deed
deed_by true = Arrival
deed_by false = RowDeed

-- A point of the code of its address, with its edges, at which no contract step is made, is what the frame has at its place.
abbrev pub PlacesAreRight : Type 0
PlacesAreRight = (f : Frame) (contracts : List Contract) (k : ℕ) (u : Unrolled) (form : Layout) (bank : Bank) (i : ℕ) (q : declared.Point) (c : Code)
    (edges : List Edge) →
    f.own ≡ own_contract u → IsFitted f.program.machine form → ((r : ℕ) → is_register_of (unrolled_of u) r ≡ f.program.machine.has_register r) →
    ((g : ℕ) → is_flag_of (unrolled_of u) g ≡ f.program.machine.has_flag g) → IsCode f bank contracts u q c edges →
    q.deed ≡ deed_by (is_cut f (point_by u q c edges).point) →
    (is_cut f (point_by u q c edges).point ≡ false → (row : Row) → file_row f.program c.at ≡ Some row →
    AreAlong f k (frame_unrolled_of u) i (point_by u q c edges).point (Some row) (map (edge_of u) edges)) →
    IsPlace f contracts k (frame_unrolled_of u) i (point_by u q c edges)

-- what stands at an address where a contract step is made
abbrev pub step_code : Contract → Code
step_code x = record {
  at = x.at;
  length = 4;
  fetchable = false;
  list = None;
  draws = false;
  row = 1024;
  loads = 0;
  stores = sum_by (λ w. w.count) x.writes;
  asserts = (0, 0);
}

-- A point of the code of a contract, with its edges, at which the step of the contract is made, is what the frame has at its place.
abbrev pub StepsAreRight : Type 0
StepsAreRight = (f : Frame) (contracts : List Contract) (k : ℕ) (u : Unrolled) (i n : ℕ) (q : declared.Point) (edges : List Edge) →
    f.own ≡ own_contract u → q.deed ≡ ContractDeed n → contract_at f.stepped (stepped_at u n).at ≡ Some (stepped_at u n) →
    (to : ℕ) (below : List ℕ) → stack_at u.frames.items q.stack ≡ to ∷ below →
    AreAlong f k (frame_unrolled_of u) i (point_by u q (step_code (stepped_at u n)) edges).point None (map (edge_of u) edges) →
    IsPlace f contracts k (frame_unrolled_of u) i (point_by u q (step_code (stepped_at u n)) edges)

-- the bounds are those of the places of an address among places by rising addresses
pub record IsGroup (index : List (ℕ × ℕ)) (at : ℕ) (bounds : ℕ × ℕ) : Type 0 where
  pub ordered : bounds.0 ≤ bounds.1
  pub within : bounds.1 ≤ length index
  pub here : AllWithin (λ x. x.0 ≡ at) index bounds.0 bounds.1
  pub before : AllWithin (λ x. x.0 < at) index 0 bounds.0
  pub behind : AllWithin (λ x. at < x.0) index bounds.1 (length index)

-- the code is that of an address, with its part of the assert lines by address
pub record IsCodeOf (p : Program) (bank : Bank) (contracts : List Contract) (at : ℕ) (asserts : List (ℕ × ℕ)) (c : Code) : Type 0 where
  pub here : c.at ≡ at
  pub row : IsRowCode p bank contracts c
  pub group : IsGroup asserts at c.asserts

-- the codes are those of the first n of some addresses
pub record AreCodes (p : Program) (bank : Bank) (contracts : List Contract) (addresses : List ℕ) (asserts : List (ℕ × ℕ)) (n : ℕ) (codes : List Code) : Type 0 where
  pub count : length codes ≡ n
  pub each : (i : ℕ) (d : Code) → i < n → IsCodeOf p bank contracts (slice_index addresses i) asserts (slice_index_or codes i d)
