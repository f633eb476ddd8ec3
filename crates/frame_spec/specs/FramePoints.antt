-- The points of a frame, their edges, and what they cost.
use Rattle.std.specs.Prelude.{ℕ, ◌≡◌, ◌≢◌, ◌≤◌, ◌<◌, ◌+◌, ◌-◌, ◌*◌, Bool, true, false, List, [], ◌∷◌, ◌++◌, Option, Some, None, ◌==◌, ◌&&◌, nat_le, nat_lt, if◌then◌else◌, filter, is_some, slice_get, Contains, length, map, sum_by}
use Rattle.std.specs.List.{list_any, flat_map}
use Rattle.bilv_spec.specs.Notes.{Expr, NoteLine}
use Rattle.bilv_spec.specs.Points as points
use Rattle.bilv_spec.specs.Points.{EdgeEnd, ToAddress, ToExit, edges, leads_on, is_exit, file_row, row_price, loads_at, stores_at, bytes_loaded, line_price, IsCount, is_known_at, begins_run}
use Rattle.frame_spec.specs.Frames.{Contract, Frame, is_head, contract_at}
use Rattle.frame_spec.specs.FrameRuns.{links_by}

-- where a segment begins: at the entry, or at a head with a stack
pub data Anchor : Type 0 where
  AtEntry : Anchor
  AtHead : (stack : List ℕ) → (at : ℕ) → Anchor

-- A point: the anchor of its segment; how many backward transfers were made; whether a contract step is made there, in place of the row; the addresses that
-- calls are to return to; and the address.
pub record Point : Type 0 where
  pub anchor : Anchor
  pub turns : ℕ
  pub contract : Bool
  pub stack : List ℕ
  pub at : ℕ

-- the point without its anchor and its contract
abbrev pub triple : Point → points.Point
triple q = record { turns = q.turns; stack = q.stack; at = q.at }

-- the first point of an anchor
abbrev pub first_of : (entry : ℕ) → Anchor → Point
first_of entry AtEntry = record { anchor = AtEntry; turns = 0; contract = false; stack = []; at = entry }
first_of entry (AtHead stack a) = record { anchor = AtHead stack a; turns = 0; contract = false; stack = stack; at = a }

-- the anchor is the entry's
abbrev pub is_entry : Anchor → Bool
is_entry AtEntry = true
is_entry (AtHead stack a) = false

-- the point is the entry's own, and the entry is a head: the segment ends there
abbrev pub is_cut : Frame → Point → Bool
is_cut f q = is_entry q.anchor && is_head f q.at

-- the return of a contract step
abbrev pub top_ends : List ℕ → List EdgeEnd
top_ends [] = []
top_ends (to ∷ below) = ToAddress below to ∷ []

-- The ends of a point's edges: those of the row, as without heads and contracts; none where the segment ends; the return alone where a contract step is made.
abbrev pub frame_edges : Frame → Point → List EdgeEnd
frame_edges f q = if q.contract then filter (leads_on f.program.machine.narrow) (top_ends q.stack) else if is_cut f q then [] else edges f.program (triple q)

-- an edge is a call, by the link register, of a contract that is stepped over
abbrev pub is_contract_end : Frame → Point → List ℕ → ℕ → Bool
is_contract_end f q stack a = is_some (contract_at f.stepped a) && nat_lt (length q.stack) (length stack) && links_by (file_row f.program q.at)

-- the number of backward transfers after an edge
abbrev pub turns_to : Point → ℕ → ℕ
turns_to q a = if nat_le a q.at then q.turns + 1 else q.turns

-- the point after an edge of the same segment
abbrev pub point_to : (contract : Bool) → Point → List ℕ → ℕ → Point
point_to contract q stack a = record { anchor = q.anchor; turns = turns_to q a; contract = contract; stack = stack; at = a }

-- where an edge to an address leads: to the first point of a head's anchor, or to a point of the same segment
abbrev pub end_of : Frame → Point → List ℕ → ℕ → Point
end_of f q stack a = if is_head f a then first_of f.program.entry (AtHead stack a) else point_to (is_contract_end f q stack a) q stack a

-- the points of at most k backward transfers
pub data IsPoint (f : Frame) (k : ℕ) : Point → Type 0 where
  first : IsPoint f k (first_of f.program.entry AtEntry)
  entry_head : is_head f f.program.entry ≡ true → IsPoint f k (first_of f.program.entry (AtHead [] f.program.entry))
  next : {q : Point} {stack : List ℕ} {a : ℕ} → IsPoint f k q → Contains (frame_edges f q) (ToAddress stack a) → (end_of f q stack a).turns ≤ k →
      IsPoint f k (end_of f q stack a)

-- an anchor is one whose first point is a point
abbrev pub IsAnchor : Frame → ℕ → Anchor → Type 0
IsAnchor f k anchor = IsPoint f k (first_of f.program.entry anchor)

-- a list of all points, each once
pub record ArePoints (f : Frame) (k : ℕ) (list : List Point) : Type 0 where
  pub all : (q : Point) → IsPoint f k q → Contains list q
  pub only : (q : Point) → Contains list q → IsPoint f k q
  pub once : (i j : ℕ) → i < j → j < length list → slice_get list i ≢ slice_get list j

-- there are more than max points
abbrev pub HasMore : Frame → (k max : ℕ) → Type 0
HasMore f k max =
    (list : List Point) × (max < length list) × ((q : Point) → Contains list q → IsPoint f k q)
    × ((i j : ℕ) → i < j → j < length list → slice_get list i ≢ slice_get list j)

-- the assert lines at an address, invariants among them
abbrev pub lines_at : Frame → ℕ → List Expr
lines_at f a = map (λ x. x.says) (filter (λ x. x.at == a) f.program.notes.asserts)

-- the lines at the head that an edge leads to
abbrev pub lines_of_end : Frame → EdgeEnd → List Expr
lines_of_end f ToExit = []
lines_of_end f (ToAddress stack a) = if is_head f a then lines_at f a else []

-- the expressions of lines
abbrev pub says_of : List NoteLine → List Expr
says_of lines = map (λ l. l.says) lines

-- the lines of a contract that a step evaluates
abbrev pub contract_lines : Option Contract → List Expr
contract_lines None = []
contract_lines (Some x) = says_of x.needs ++ says_of x.gives ++ map (λ w. w.says) x.writes

-- the lines that are judged where a frame is left
abbrev pub exit_lines : Frame → List Expr
exit_lines f = by f.own
  where
    by : Option Contract → List Expr
    by None = says_of f.program.notes.ensures
    by (Some x) = says_of x.gives

-- the lines that are evaluated at a point: those of its contract or of its address, those at the heads that its edges lead to, and those at the exit
abbrev pub evaluated : Frame → Point → List Expr
evaluated f q =
    (if q.contract then contract_lines (contract_at f.stepped q.at) else lines_at f q.at) ++ flat_map (lines_of_end f) (frame_edges f q)
    ++ (if list_any is_exit (frame_edges f q) then exit_lines f else [])

-- how many bytes a contract may write
abbrev pub bytes_of : Option Contract → ℕ
bytes_of None = 0
bytes_of (Some x) = sum_by (λ w. w.count) x.writes

-- what the price counts of a point: its row, or 1024 for a contract step; byte loads of rows; byte stores, the bytes that a contract may write among them
abbrev pub point_price : Frame → Point → ℕ
point_price f q = if q.contract then 1024 else row_price (file_row f.program q.at)

abbrev pub point_loads : Frame → Point → ℕ
point_loads f q = if q.contract then 0 else loads_at f.program q.at (file_row f.program q.at)

abbrev pub point_stores : Frame → Point → ℕ
point_stores f q = if q.contract then bytes_of (contract_at f.stepped q.at) else stores_at (file_row f.program q.at)

-- the lines that a frame evaluates once: its entry condition, and the bytes that its own contract may write
abbrev pub entry_lines : Frame → List Expr
entry_lines f = says_of f.program.notes.requires ++ by f.own
  where
    by : Option Contract → List Expr
    by None = []
    by (Some x) = map (λ w. w.says) x.writes

-- what the exit of a contract's frame costs at a point, where registers and flags are compared
abbrev pub own_exit : Option Contract → Bool → ℕ
own_exit (Some x) true = 8192
own_exit o b = 0

-- how many lines say what the frame's own contract may write
abbrev pub own_writes : Option Contract → ℕ
own_writes None = 0
own_writes (Some x) = length x.writes

-- the frame has a head
abbrev pub has_heads : Frame → Bool
has_heads f = list_any (λ x. is_head f x.at) f.program.notes.asserts

-- the price of these points, with so many known bytes and runs of kept bytes
abbrev pub price_of : Frame → List Point → (known runs : ℕ) → ℕ
price_of f list known runs =
    let lines = entry_lines f ++ flat_map (evaluated f) list in
    let ends = sum_by (λ q. length (frame_edges f q)) list in
    let loads = sum_by (point_loads f) list + sum_by bytes_loaded lines in
    let stores = sum_by (point_stores f) list in
    1024 + (if has_heads f then 1024 else 0) + sum_by (point_price f) list + 1280 * ends + sum_by line_price lines
    + sum_by (λ q. own_exit f.own (list_any is_exit (frame_edges f q))) list + 512 * (stores * own_writes f.own)
    + 128 * loads + 128 * stores + 64 * (loads * stores) + 16 * (loads * ends) + 32 * (loads * (loads - 1)) + 40 * (loads * known) + 128 * (stores * runs)

-- the price of a frame
abbrev pub IsPrice : Frame → ℕ → ℕ → Type 0
IsPrice f k price =
    (list : List Point) × (known runs : ℕ) × ArePoints f k list × IsCount (is_known_at f.program) known × IsCount (begins_run f.program) runs
    × (price ≡ price_of f list known runs)
