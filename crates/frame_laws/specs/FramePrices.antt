-- What an unrolled frame costs: its price, and bounds on the terms that are made of it.
use Rattle.std.specs.Prelude.{ℕ, ◌≡◌, ◌+◌, ◌-◌, ◌*◌, Bool, true, false, if◌then◌else◌, List, [], ◌∷◌, ◌++◌, Option, Some, None, length, map, sum_by}
use Rattle.std.specs.List.{list_any, flat_map}
use Rattle.machine_spec.specs.Bil.{list_size}
use Rattle.bilv_spec.specs.Notes.{Expr}
use Rattle.bilv_spec.specs.Points.{line_price, bytes_loaded}
use Rattle.walk_spec.specs.Unrolled as tables
use Rattle.walk_spec.specs.Prices as prices
use Rattle.walk_spec.specs.Prices.{cell_price, line_steps}
use Rattle.frame_spec.specs.Frames.{Contract, Frame}
use Rattle.frame_spec.specs.FramePoints.{IsPrice, has_heads, says_of}
use Rattle.frame_spec.specs.FrameWalk.{Aim, IntoHead, Outward, PointExit, FalseCheck, FalseNeed, Along, Action, Executes, StepsOver, UnrolledPoint, Own, UnrolledProgram}
use Rattle.frame_spec.specs.FrameUnrolling.{IsUnrolling}
use Rattle.frame_laws.specs.HeadlessLaws.{as_unrolled}

-- an exit is an edge
abbrev pub is_edge : PointExit → ℕ
is_edge (Along falls jumps to aim) = 1
is_edge x = 0

-- it leads out of the frame
abbrev pub is_outward : Aim → Bool
is_outward Outward = true
is_outward aim = false

abbrev pub goes_out : PointExit → Bool
goes_out (Along falls jumps to aim) = is_outward aim
goes_out x = false

-- the lines at the head that an edge leads to
abbrev pub lines_into : Aim → List Expr
lines_into (IntoHead at checks) = map (λ x. x.says) checks
lines_into aim = []

-- the lines that an exit evaluates
abbrev pub line_of : PointExit → List Expr
line_of (FalseCheck x) = x.says ∷ []
line_of (FalseNeed line e) = e ∷ []
line_of (Along falls jumps to aim) = lines_into aim
line_of x = []

-- the lines of a contract that a contract step evaluates behind what the contract needs
abbrev pub action_lines : Action → List Expr
action_lines (StepsOver x) = says_of x.gives ++ map (λ w. w.says) x.writes
action_lines a = []

-- the lines that are judged where the frame is left
abbrev pub exit_lines : UnrolledProgram → List Expr
exit_lines u = by u.own
  where
    by : Option Own → List Expr
    by None = says_of u.ensures
    by (Some x) = says_of x.gives

-- the edges of an unrolled frame
abbrev pub edges_of : UnrolledProgram → ℕ
edges_of u = sum_by (λ q. sum_by is_edge q.exits) u.points

-- the lines that are evaluated at a point
abbrev pub lines_at : UnrolledProgram → UnrolledPoint → List Expr
lines_at u q = flat_map line_of q.exits ++ action_lines q.does ++ (if list_any goes_out q.exits then exit_lines u else [])

-- the lines that are required of entry states
abbrev pub required_lines : UnrolledProgram → List Expr
required_lines u = says_of u.requires

-- the lines that say what the frame's own contract may write, which are evaluated at the entry
abbrev pub own_lines : UnrolledProgram → List Expr
own_lines u = by u.own
  where
    by : Option Own → List Expr
    by None = []
    by (Some x) = map (λ w. w.says) x.writes

-- the lines that are evaluated at the entry
abbrev pub entry_lines : UnrolledProgram → List Expr
entry_lines u = required_lines u ++ own_lines u

-- the lines that the roots assume
abbrev pub root_lines : UnrolledProgram → List Expr
root_lines u = flat_map (λ x. says_of x.assumes) u.roots

-- the lines that the terms of the points stand on, evaluated where segments begin: all but those that are required
abbrev pub begin_lines : UnrolledProgram → List Expr
begin_lines u = own_lines u ++ root_lines u

-- the lines that are evaluated at the points
abbrev pub point_lines : UnrolledProgram → List Expr
point_lines u = flat_map (lines_at u) u.points

-- all evaluated lines
abbrev pub lines_of : UnrolledProgram → List Expr
lines_of u = entry_lines u ++ root_lines u ++ point_lines u

-- the counted byte loads of rows and of the lines at points; and of all lines
abbrev pub point_loads : UnrolledProgram → ℕ
point_loads u = sum_by (λ q. q.loads) u.points + sum_by bytes_loaded (point_lines u)

abbrev pub loads_of : UnrolledProgram → ℕ
loads_of u = sum_by (λ q. q.loads) u.points + sum_by bytes_loaded (lines_of u)

-- the counted byte stores
abbrev pub stores_of : UnrolledProgram → ℕ
stores_of u = sum_by (λ q. q.stores) u.points

-- the known bytes
abbrev pub known_of : UnrolledProgram → ℕ
known_of u = sum_by (λ r. r.count) u.known

-- how many lines say what the frame's own contract may write
abbrev pub own_writes : UnrolledProgram → ℕ
own_writes u = by u.own
  where
    by : Option Own → ℕ
    by None = 0
    by (Some x) = length x.writes

-- what the exit of a contract's frame costs at a point, where registers and flags are compared
abbrev pub own_exit : Option Own → Bool → ℕ
own_exit (Some x) true = 8192
own_exit o b = 0

abbrev pub own_exits : UnrolledProgram → ℕ
own_exits u = sum_by (λ q. own_exit u.own (list_any goes_out q.exits)) u.points

-- The part of the price that pays for the gates of the points: rows, edges, evaluated lines, exits of a contract's frame, and the tests of each byte store
-- against each line of what the contract may write and each run of kept bytes.
abbrev pub point_price : UnrolledProgram → ℕ
point_price u =
    sum_by (λ q. q.row) u.points + 1280 * edges_of u + sum_by line_price (point_lines u) + own_exits u + 512 * (stores_of u * own_writes u)
    + 128 * (stores_of u * length u.kept)

-- The part of the price that pays for the gates of terms. heads: the frame has a head.
abbrev pub term_price : UnrolledProgram → (heads : Bool) → ℕ
term_price u heads =
    1024 + (if heads then 1024 else 0) + sum_by (λ q. q.row) u.points + 1280 * edges_of u + sum_by line_price (lines_of u) + own_exits u
    + 512 * (stores_of u * own_writes u) + 128 * (stores_of u * length u.kept)

-- the price of an unrolled frame
abbrev pub unrolled_price : UnrolledProgram → (heads : Bool) → ℕ
unrolled_price u heads = term_price u heads + cell_price (loads_of u) (stores_of u) (edges_of u) (known_of u)

-- it is the price of its frame
abbrev pub FramePriceIsPrice : Type 0
FramePriceIsPrice = (f : Frame) (contracts : List Contract) (k : ℕ) (u : UnrolledProgram) → IsUnrolling f contracts k u →
    IsPrice f k (unrolled_price u (has_heads f))

-- how many nodes an action has
abbrev pub action_size : Action → ℕ
action_size (Executes list) = list_size list
action_size a = 0

-- what is carried: registers, flags and the memory
abbrev pub variables_of : UnrolledProgram → ℕ
variables_of u = length u.registers + u.flags + 1

-- the nodes of lists of statements
abbrev pub list_nodes : UnrolledProgram → ℕ
list_nodes u = sum_by (λ q. action_size q.does) u.points

-- The bound on the nodes of a question's term: four for each node of a list, for each variable at each edge, and for each other step. Those are each variable
-- and 16 more for the entry and for each root behind the entry's, 16 at each point, the steps of the evaluated lines, and 4 for each byte store with each run
-- of kept bytes and with each line of what the frame's own contract may write.
abbrev pub node_bound : UnrolledProgram → ℕ
node_bound u =
    4 * (list_nodes u + variables_of u * edges_of u
    + (variables_of u + 16 + (length u.roots - 1) * (variables_of u + 16) + 16 * length u.points + line_steps (lines_of u)
    + 4 * (stores_of u * length u.kept) + 4 * (stores_of u * own_writes u)))

-- The part of the bound for the terms of the points. The variables are named twice, by these terms and by those of the entry condition: two nodes each time.
abbrev pub point_bound : UnrolledProgram → ℕ
point_bound u =
    2 * variables_of u + 48
    + 4 * (list_nodes u + variables_of u * edges_of u
    + (16 * length u.points + line_steps (point_lines u) + 4 * (stores_of u * length u.kept) + 4 * (stores_of u * own_writes u)))

-- the part for the entry condition, and for tying it to the points
abbrev pub entry_bound : UnrolledProgram → ℕ
entry_bound u = 2 * variables_of u + 16 + 4 * line_steps (required_lines u)

-- the part for the roots after the entry's, for what they assume, and for what the frame's own contract may write
abbrev pub root_bound : UnrolledProgram → ℕ
root_bound u = 4 * ((length u.roots - 1) * (variables_of u + 16)) + 4 * line_steps (begin_lines u)

-- What a question's term may have is what the terms of the points may, what is left for the entry condition, and what is left for where segments begin.
abbrev pub FramePartsAddUp : Type 0
FramePartsAddUp =
    (u : UnrolledProgram) (heads : Bool) →
    (term_price u heads
    ≡ point_price u + (1024 + sum_by line_price (required_lines u)) + ((if heads then 1024 else 0) + sum_by line_price (begin_lines u)))
    × (loads_of u ≡ point_loads u + sum_by bytes_loaded (required_lines u) + sum_by bytes_loaded (begin_lines u))
    × (node_bound u ≡ point_bound u + entry_bound u + root_bound u)

-- Of an unrolled program the price and the bounds are those of its unrolled frame.
abbrev pub HeadlessBounds : Type 0
HeadlessBounds =
    (u : tables.UnrolledProgram) →
    (unrolled_price (as_unrolled u) false ≡ prices.unrolled_price u) × (term_price (as_unrolled u) false ≡ prices.term_price u)
    × (point_price (as_unrolled u) ≡ prices.point_price u) × (loads_of (as_unrolled u) ≡ prices.loads_of u)
    × (point_loads (as_unrolled u) ≡ prices.point_loads u) × (stores_of (as_unrolled u) ≡ prices.stores_of u)
    × (edges_of (as_unrolled u) ≡ prices.edges_of u) × (node_bound (as_unrolled u) ≡ prices.node_bound u)
    × (point_bound (as_unrolled u) ≡ prices.point_bound u)
