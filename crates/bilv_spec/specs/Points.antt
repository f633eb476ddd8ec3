-- The points of a program, their edges, and what they cost.
use Rattle.std.specs.Prelude.{ℕ, ◌≡◌, ◌≢◌, ◌≤◌, ◌<◌, ◌+◌, ◌-◌, ◌*◌, ◌^◌, Bool, true, false, List, [], ◌∷◌, ◌++◌, Option, Some, None, ◌==◌, ◌&&◌, nat_le, if◌then◌else◌, ◌||◌, ◌↔◌, not, filter, is_some, slice_get, Contains, length, map, sum_by, slice_index}
use Rattle.std.specs.List.{list_any, flat_map}
use Rattle.std.specs.Str.{bytes_eq}
use Rattle.word_spec.specs.Words.{add}
use Rattle.word_spec.specs.Memory.{number}
use Rattle.machine_spec.specs.Machine.{Row, Successors, is_place, taken}
use Rattle.bilv_spec.specs.Elf.{Cell}
use Rattle.bilv_spec.specs.Notes.{Expr, Memory, Old, Not, Binary, Op, Times, Each}
use Rattle.bilv_spec.specs.Run.{Program, row_at, some_of, named, literal_target, is_kept}
use Rattle.bilv_spec.specs.Verdict.{fixed}

-- a point: how many backward transfers were made, the addresses that calls are to return to, and the address
pub record Point : Type 0 where
  pub turns : ℕ
  pub stack : List ℕ
  pub at : ℕ

-- where an edge leads: to an address with a stack, or to the exit
pub data EdgeEnd : Type 0 where
  ToAddress : (stack : List ℕ) → (at : ℕ) → EdgeEnd
  ToExit : EdgeEnd

-- the byte that the file loads, 0 where there is none
abbrev pub byte_of_cell : Option Cell → ℕ
byte_of_cell None = 0
byte_of_cell (Some c) = c.byte

-- the number of the four bytes that the file has from an address on
abbrev pub file_number : Program → ℕ → ℕ
file_number p a = number p.machine.endian 4 (λ i. byte_of_cell (p.loaded (add 32 a i)))

-- what is decoded of them
abbrev pub file_word : Program → ℕ → ℕ
file_word p a = taken p.machine.narrow (file_number p a)

-- the row at an address, by the file
abbrev pub file_row : Program → ℕ → Option Row
file_row p a = row_at p (file_word p) a

-- the address is the stack's top
abbrev pub is_top : List ℕ → ℕ → Bool
is_top [] a = false
is_top (top ∷ below) a = top == a

-- the stack after a row of so many bytes
abbrev pub after_call : (call : Bool) → (length at : ℕ) → List ℕ → List ℕ
after_call true length at stack = add 32 at length ∷ stack
after_call false length at stack = stack

-- the ends of a jump that is no call: the return to the stack's top, or the exit
abbrev pub return_ends : List ℕ → List EdgeEnd
return_ends [] = ToExit ∷ []
return_ends (top ∷ below) = ToAddress below top ∷ []

-- the ends of an indirect jump to named targets; one that is no call and goes to the stack's top is the return, which comes first
abbrev pub indirect_ends : (call : Bool) → (length at : ℕ) → List ℕ → List ℕ → List EdgeEnd
indirect_ends true length at stack targets = map (λ a. ToAddress (after_call true length at stack) a) targets
indirect_ends false length at stack targets = return_ends stack ++ map (λ a. ToAddress stack a) (filter (λ a. not (is_top stack a)) targets)

-- the end of a row that goes on to the next address
abbrev pub fall_ends : Point → Row → Successors → List EdgeEnd
fall_ends point row s = if s.next then ToAddress point.stack (add 32 point.at row.length) ∷ [] else []

-- the ends of a row's jumps, in the order in which a step judges them
abbrev pub jump_ends : Program → Point → Row → Successors → List EdgeEnd
jump_ends p point row s =
    map (λ a. ToAddress (after_call s.call row.length point.at point.stack) a) (some_of s.direct)
    ++ (if s.indirect then indirect_ends s.call row.length point.at point.stack (named p (file_word p) row point.at) else [])

-- The ends of the edges of a row at a point. Those of its jumps come first: an end that is reached by going on and by a jump is one edge, and a jump that may
-- take it may be an exit, which is judged before.
abbrev pub edges_of : Program → Point → Row → Successors → List EdgeEnd
edges_of p point row s = jump_ends p point row s ++ fall_ends point row s

-- the ends by the row at the address
abbrev pub edges_by : Program → Point → Option Row → List EdgeEnd
edges_by p point None = []
edges_by p point (Some row) = edges_of p point row (row.successors point.at)

-- two ends are the same
abbrev pub same_end : EdgeEnd → EdgeEnd → Bool
same_end ToExit ToExit = true
same_end (ToAddress s a) (ToAddress t b) = (a == b) && bytes_eq s t
same_end _ _ = false

-- an end is the exit, or an address at which a row can stand
abbrev pub leads_on : (narrow : Bool) → EdgeEnd → Bool
leads_on narrow ToExit = true
leads_on narrow (ToAddress stack a) = is_place narrow a

-- each end once, at its first place
abbrev pub distinct : List EdgeEnd → List EdgeEnd
distinct [] = []
distinct (t ∷ rest) = t ∷ filter (λ u. not (same_end t u)) (distinct rest)

-- the edges of a point
abbrev pub edges : Program → Point → List EdgeEnd
edges p point = distinct (filter (leads_on p.machine.narrow) (edges_by p point (file_row p point.at)))

-- the point at an edge's end
abbrev pub end_of : Point → List ℕ → ℕ → Point
end_of point stack a = record { turns = (if nat_le a point.at then point.turns + 1 else point.turns); stack = stack; at = a }

-- the points of at most k backward transfers
pub data IsPoint (p : Program) (k : ℕ) : Point → Type 0 where
  first : IsPoint p k (record { turns = 0; stack = []; at = p.entry })
  next : {point : Point} {stack : List ℕ} {a : ℕ} → IsPoint p k point → Contains (edges p point) (ToAddress stack a) →
      (end_of point stack a).turns ≤ k → IsPoint p k (end_of point stack a)

-- a list of all points, each once
pub record ArePoints (p : Program) (k : ℕ) (points : List Point) : Type 0 where
  pub all : (point : Point) → IsPoint p k point → Contains points point
  pub only : (point : Point) → Contains points point → IsPoint p k point
  pub once : (i j : ℕ) → i < j → j < length points → slice_get points i ≢ slice_get points j

-- there are more than max points
abbrev pub HasMore : Program → ℕ → ℕ → Type 0
HasMore p k max =
    (points : List Point) × (max < length points) × ((point : Point) → Contains points point → IsPoint p k point)
    × ((i j : ℕ) → i < j → j < length points → slice_get points i ≢ slice_get points j)

-- 1 for the product
abbrev pub is_product : Op → ℕ
is_product Times = 1
is_product _ = 0

-- 1 for an operator of the text, so not for the one that joins the values of an `all`
abbrev pub is_written : Op → ℕ
is_written Each = 0
is_written _ = 1

-- an expression's products
abbrev pub products : Expr → ℕ
products (Memory n e) = products e
products (Old e) = products e
products (Not e) = products e
products (Binary op a b) = is_product op + products a + products b
products _ = 0

-- an expression's operators, its products among them
abbrev pub operations : Expr → ℕ
operations (Memory n e) = operations e
operations (Old e) = operations e
operations (Not e) = 1 + operations e
operations (Binary op a b) = is_written op + operations a + operations b
operations _ = 0

-- the values of an expression's `all`s
abbrev pub value_count : Expr → ℕ
value_count (Memory n e) = value_count e
value_count (Old e) = value_count e
value_count (Not e) = value_count e
value_count (Binary op a b) = (1 - is_written op) + value_count a + value_count b
value_count _ = 0

-- the bytes that an expression loads
abbrev pub bytes_loaded : Expr → ℕ
bytes_loaded (Memory n e) = n + bytes_loaded e
bytes_loaded (Old e) = bytes_loaded e
bytes_loaded (Not e) = bytes_loaded e
bytes_loaded (Binary op a b) = bytes_loaded a + bytes_loaded b
bytes_loaded _ = 0

-- the price of a line: products cost more, a line without an operator counts as one, and each value of an `all` counts as one operator more
abbrev pub line_price : Expr → ℕ
line_price e = 8192 * products e + 512 * ((if operations e == 0 then 1 else operations e - products e) + value_count e)

-- a list without elements
abbrev pub is_empty : List ℕ → Bool
is_empty [] = true
is_empty (x ∷ rest) = false

-- the byte loads of a row at an address; a literal that is kept costs none
abbrev pub loads_at : Program → ℕ → Option Row → ℕ
loads_at p a None = 0
loads_at p a (Some row) = if is_empty (literal_target p (file_word p) (row.literal a)) then row.cost.loads else 0

-- the byte stores of a row
abbrev pub stores_at : Option Row → ℕ
stores_at None = 0
stores_at (Some row) = row.cost.stores

-- the price of a point by its row
abbrev pub row_price : Option Row → ℕ
row_price None = 64
row_price (Some row) = row.cost.row

-- the edge leads out
abbrev pub is_exit : EdgeEnd → Bool
is_exit ToExit = true
is_exit (ToAddress stack a) = false

-- the lines of the notes that are evaluated at a point
abbrev pub evaluated : Program → Point → List Expr
evaluated p point =
    map (λ a. a.says) (filter (λ a. a.at == point.at) p.notes.asserts)
    ++ (if list_any is_exit (edges p point) then map (λ l. l.says) p.notes.ensures else [])

-- how many addresses pass a test
abbrev pub IsCount : (ℕ → Bool) → ℕ → Type 0
IsCount test n =
    (places : List ℕ) × (length places ≡ n) × ((i j : ℕ) → i < j → j < length places → slice_index places i < slice_index places j)
    × ((a : ℕ) → Contains places a ↔ ((a < 2 ^ 32) × (test a ≡ true)))

-- the byte at an address is kept
abbrev pub is_kept_at : Program → ℕ → Bool
is_kept_at p a = is_kept (p.loaded a)

-- the byte at an address is kept or fixed
abbrev pub is_known_at : Program → ℕ → Bool
is_known_at p a = is_kept (p.loaded a) || (is_some (p.loaded a) && fixed p.notes.fixed a)

-- a maximal run of kept bytes begins here
abbrev pub begins_run : Program → ℕ → Bool
begins_run p a = is_kept_at p a && ((a == 0) || not (is_kept_at p (a - 1)))

-- the price of these points, with so many known bytes and runs of kept bytes
abbrev pub price_of : Program → List Point → (known runs : ℕ) → ℕ
price_of p points known runs =
    let lines = map (λ l. l.says) p.notes.requires ++ flat_map (evaluated p) points in
    let ends = sum_by (λ point. length (edges p point)) points in
    let loads = sum_by (λ point. loads_at p point.at (file_row p point.at)) points + sum_by bytes_loaded lines in
    let stores = sum_by (λ point. stores_at (file_row p point.at)) points in
    1024 + sum_by (λ point. row_price (file_row p point.at)) points + 1280 * ends + sum_by line_price lines
    + 128 * loads + 128 * stores + 64 * (loads * stores) + 16 * (loads * ends) + 32 * (loads * (loads - 1)) + 40 * (loads * known) + 128 * (stores * runs)

-- the price of a program
abbrev pub IsPrice : Program → ℕ → ℕ → Type 0
IsPrice p k price =
    (points : List Point) × (known runs : ℕ) × ArePoints p k points × IsCount (is_known_at p) known × IsCount (begins_run p) runs
    × (price ≡ price_of p points known runs)
