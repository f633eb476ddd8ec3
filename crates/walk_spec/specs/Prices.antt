-- What an unrolled program costs: its price, and bounds on the terms that are made of it.
use Rattle.std.specs.Prelude.{ℕ, ◌≡◌, ◌+◌, ◌-◌, ◌*◌, if◌then◌else◌, List, [], ◌∷◌, ◌++◌, length, map, sum_by}
use Rattle.std.specs.List.{list_any, flat_map}
use Rattle.bilv_spec.specs.Notes.{Expr, Number, Register, Flag, Pc, Bound, Memory, Old, Not, Binary}
use Rattle.machine_spec.specs.Bil.{list_size}
use Rattle.bilv_spec.specs.Run.{Program}
use Rattle.bilv_spec.specs.Points.{IsPrice, line_price, bytes_loaded}
use Rattle.walk_spec.specs.Unrolled.{PointExit, FalseAssert, Action, Executes, UnrolledPoint, UnrolledProgram, is_edge, goes_out}
use Rattle.walk_spec.specs.Unrolling.{IsUnrolling}

-- the line that an exit evaluates
abbrev pub line_of : PointExit → List Expr
line_of (FalseAssert line e) = e ∷ []
line_of x = []

-- the edges of a program
abbrev pub edges_of : UnrolledProgram → ℕ
edges_of u = sum_by (λ q. sum_by is_edge q.exits) u.points

-- the lines that are evaluated at a point
abbrev pub lines_at : UnrolledProgram → UnrolledPoint → List Expr
lines_at u q = flat_map line_of q.exits ++ (if list_any goes_out q.exits then map (λ l. l.says) u.ensures else [])

-- the lines that are required, evaluated at the entry
abbrev pub entry_lines : UnrolledProgram → List Expr
entry_lines u = map (λ l. l.says) u.requires

-- the lines that are evaluated at the points
abbrev pub point_lines : UnrolledProgram → List Expr
point_lines u = flat_map (lines_at u) u.points

-- all evaluated lines
abbrev pub lines_of : UnrolledProgram → List Expr
lines_of u = entry_lines u ++ point_lines u

-- the counted byte loads of rows, and of the lines at points
abbrev pub point_loads : UnrolledProgram → ℕ
point_loads u = sum_by (λ q. q.loads) u.points + sum_by bytes_loaded (point_lines u)

-- the counted byte loads, of rows and of lines
abbrev pub loads_of : UnrolledProgram → ℕ
loads_of u = sum_by (λ q. q.loads) u.points + sum_by bytes_loaded (lines_of u)

-- the counted byte stores
abbrev pub stores_of : UnrolledProgram → ℕ
stores_of u = sum_by (λ q. q.stores) u.points

-- the known bytes
abbrev pub known_of : UnrolledProgram → ℕ
known_of u = sum_by (λ r. r.count) u.known

-- The part of the price that pays for the gates of the points: rows, edges, evaluated lines, and the tests of each byte store against each run of kept bytes.
abbrev pub point_price : UnrolledProgram → ℕ
point_price u = sum_by (λ q. q.row) u.points + 1280 * edges_of u + sum_by line_price (point_lines u) + 128 * (stores_of u * length u.kept)

-- The part of the price that pays for the gates of terms. Byte loads and stores, and what ties them to each other, are paid for apart.
abbrev pub term_price : UnrolledProgram → ℕ
term_price u = 1024 + sum_by (λ q. q.row) u.points + 1280 * edges_of u + sum_by line_price (lines_of u) + 128 * (stores_of u * length u.kept)

-- the part that pays for the cells of memory
abbrev pub cell_price : (loads stores edges known : ℕ) → ℕ
cell_price l s e k = 128 * l + 128 * s + 64 * (l * s) + 16 * (l * e) + 32 * (l * (l - 1)) + 40 * (l * k)

-- the price of an unrolled program
abbrev pub unrolled_price : UnrolledProgram → ℕ
unrolled_price u = term_price u + cell_price (loads_of u) (stores_of u) (edges_of u) (known_of u)

-- it is the price of its program
abbrev pub PriceIsPrice : Type 0
PriceIsPrice = (p : Program) (k : ℕ) (u : UnrolledProgram) → IsUnrolling p k u → IsPrice p k (unrolled_price u)

-- how many nodes a line has
abbrev pub line_size : Expr → ℕ
line_size (Number n) = 1
line_size (Register r) = 1
line_size (Flag f) = 1
line_size Pc = 1
line_size Bound = 1
line_size (Memory n e) = 1 + line_size e
line_size (Old e) = 1 + line_size e
line_size (Not e) = 1 + line_size e
line_size (Binary op a b) = 1 + line_size a + line_size b

-- how many nodes an action has
abbrev pub action_size : Action → ℕ
action_size (Executes list) = list_size list

-- what is carried: registers, flags and the memory
abbrev pub variables_of : UnrolledProgram → ℕ
variables_of u = length u.registers + u.flags + 1

-- the nodes of lists of statements
abbrev pub list_nodes : UnrolledProgram → ℕ
list_nodes u = sum_by (λ q. action_size q.does) u.points

-- the steps of evaluated lines: the nodes of each, and 4
abbrev pub line_steps : List Expr → ℕ
line_steps lines = sum_by (λ e. line_size e + 4) lines

-- The bound on the nodes of a question's term: four for each node of a list, for each variable at each edge, and for each other step. Those are each variable
-- and 16 more, 16 at each point, the steps of the evaluated lines, and 4 for each byte store with each run of kept bytes.
abbrev pub node_bound : UnrolledProgram → ℕ
node_bound u =
    4 * (list_nodes u + variables_of u * edges_of u
    + (variables_of u + 16 + 16 * length u.points + line_steps (lines_of u) + 4 * (stores_of u * length u.kept)))

-- The part of the bound for the terms of the points. The variables are named twice, by these terms and by those of the entry condition: two nodes each time.
abbrev pub point_bound : UnrolledProgram → ℕ
point_bound u =
    2 * variables_of u + 48
    + 4 * (list_nodes u + variables_of u * edges_of u + (16 * length u.points + line_steps (point_lines u) + 4 * (stores_of u * length u.kept)))

-- the part for the entry condition, and for tying it to the points
abbrev pub entry_bound : UnrolledProgram → ℕ
entry_bound u = 2 * variables_of u + 16 + 4 * line_steps (entry_lines u)

-- What a question's term may have is what the terms of the points may, and what is left for the entry condition: 1024 gates and the price of each required
-- line, the bytes that those lines load, and its part of the nodes. So nothing is paid for twice.
abbrev pub PartsAddUp : Type 0
PartsAddUp =
    (u : UnrolledProgram) →
    (term_price u ≡ point_price u + (1024 + sum_by line_price (entry_lines u)))
    × (loads_of u ≡ point_loads u + sum_by bytes_loaded (entry_lines u))
    × (node_bound u ≡ point_bound u + entry_bound u)
