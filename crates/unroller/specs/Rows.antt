-- What the lists of rows do at points.
use Rattle.std.specs.Prelude.{ℕ, ◌≡◌, ◌<◌, ◌^◌, ◌↔◌, Bool, true, false, nat_eq, nat_lt, List, Option, Some, None, Contains, length, slice_index, if◌then◌else◌}
use Rattle.std.specs.List.{list_any}
use Rattle.std.specs.Global.{Vec}
use Rattle.machine_spec.specs.Machine.{Row}
use Rattle.machine_spec.specs.MachineLaws.{IsLawful, IsFitted, IsLifting}
use Rattle.machine_spec.specs.StateText.{Layout}
use Rattle.machine_spec.specs.Bil.{Bank, Statements, Empty}
use Rattle.machine_spec.specs.BilCounts.{may_assign}
use Rattle.bilv_spec.specs.Run.{Program, all_kept}
use Rattle.bilv_spec.specs.Points.{file_row, file_number, loads_at}
use Rattle.bil_ast.specs.declared.statements.Stmt.{Stmt}
use Rattle.bil_ast.specs.Views.{statements}
use Rattle.bil_trim.specs.Flags.{kept_in, with_flags}
use Rattle.bil_trim.specs.Literals.{with_literal}
use Rattle.flag_live.specs.Contracted.{IsLiveWith}
use Rattle.graph_nodes.specs.Graphs.{has_flag}
use Rattle.frame_spec.specs.Frames.{Contract}
use Rattle.frame_spec.specs.FrameUnrolling.{DoesRow, IsRunnable}
use Rattle.frame_spec.specs.FrameWalk as frames

-- the address of a literal, if its four bytes are kept
abbrev pub kept_literal : Program → Option ℕ → Option ℕ
kept_literal p None = None
kept_literal p (Some a) = if all_kept p a then Some a else None

-- the literal of a row that stands at an address, if its four bytes are kept
abbrev pub literal_by : Program → Option Row → (at : ℕ) → Option ℕ
literal_by p None at = None
literal_by p (Some row) at = kept_literal p (row.literal at)

-- the literal of the row at an address, if its four bytes are kept
abbrev pub literal_at : Program → ℕ → Option ℕ
literal_at p at = literal_by p (file_row p at) at

-- the addresses are those of the kept literals that the rows at the first n of some addresses load
abbrev pub AreLiterals : Program → (addresses : List ℕ) → (n : ℕ) → List ℕ → Type 0
AreLiterals p addresses n found =
    (a : ℕ) → Contains found a ↔ ((i : ℕ) × (i < n) × (literal_at p (slice_index addresses i) ≡ Some a))

-- a list in which the word of the file's four bytes at the address stands for its loads
abbrev pub list_with : Program → Option ℕ → Statements → Statements
list_with p None list = list
list_with p (Some a) list = with_literal p.machine.endian a (file_number p a) list

-- The list of a row that stands at an address, in frames of notes with some contracts: as it is lifted, but without the assignments of flags that are not live
-- there, and with the constant of a literal in place of its load where the literal is kept.
pub record IsListAt (p : Program) (bank : Bank) (contracts : List Contract) (row : Row) (at : ℕ) (list : Statements) : Type 0 where
  pub lifted : Statements
  pub lifting : IsLifting p.machine bank row at lifted
  pub keeps : ℕ
  pub live : (f : ℕ) → f < 4 → (has_flag keeps f ≡ true) ↔ IsLiveWith p contracts f at
  pub is : list ≡ list_with p (kept_literal p (row.literal at)) (with_flags (kept_in keeps) lifted)
  pub word : (a : ℕ) → kept_literal p (row.literal at) ≡ Some a → file_number p a < 2 ^ 32

-- the list of what stands at an address, and none where there is no row
abbrev pub IsListedAt : Program → Bank → List Contract → Option Row → (at : ℕ) → Option (Vec Stmt) → Type 0
IsListedAt p bank contracts None at None = Unit {0}
IsListedAt p bank contracts (Some row) at (Some v) = IsListAt p bank contracts row at (statements v.items)
IsListedAt p bank contracts None at (Some v) = ⊥
IsListedAt p bank contracts (Some row) at None = ⊥

-- A list that is done where a row stands at an address is the row's, and one where none does is empty. At an arrival and at a contract step no list is done.
abbrev pub IsListOf : Program → Bank → List Contract → Option Row → (at : ℕ) → frames.Action → Type 0
IsListOf p bank contracts None at (frames.Executes list) = list ≡ Empty
IsListOf p bank contracts (Some row) at (frames.Executes list) = IsListAt p bank contracts row at list
IsListOf p bank contracts o at frames.Arrives = Unit {0}
IsListOf p bank contracts o at (frames.StepsOver x) = Unit {0}

-- the list that is done at each point is that of the row at its address
abbrev pub HasListsOf : Program → Bank → List Contract → frames.UnrolledProgram → Type 0
HasListsOf p bank contracts u = (i : ℕ) → i < length u.points →
    IsListOf p bank contracts (file_row p (frames.point_at u i).point.at) (frames.point_at u i).point.at (frames.point_at u i).does

-- what is counted of a point is what the row costs
pub record IsCosted (p : Program) (q : frames.UnrolledPoint) (row : Row) : Type 0 where
  pub draws : q.draws ≡ row.draws
  pub row_cost : q.row ≡ row.cost.row
  pub loads : q.loads ≡ loads_at p q.point.at (Some row)
  pub stores : q.stores ≡ row.cost.stores

-- The list of a lawful row, at a point of the row's address, does what the row does as far as it is read later, in frames with some contracts. Terms can be made
-- of it.
abbrev pub ListsDoRows : Type 0
ListsDoRows = (p : Program) (contracts : List Contract) (u : frames.UnrolledProgram) (form : Layout) (bank : Bank) (q : frames.UnrolledPoint)
    (row : Row) (list : Statements) →
    IsFitted p.machine form → ((r : ℕ) → list_any (nat_eq r) u.registers ≡ p.machine.has_register r) → ((f : ℕ) → nat_lt f u.flags ≡ p.machine.has_flag f) →
    file_row p q.point.at ≡ Some row → IsLawful row → IsListAt p bank contracts row q.point.at list →
    q.does ≡ frames.Executes list → q.length ≡ row.length → IsCosted p q row → DoesRow p contracts u q row × IsRunnable u q list

-- what is done assigns the flag somewhere
abbrev pub may_assign_in : ℕ → frames.Action → Bool
may_assign_in f (frames.Executes list) = may_assign f list
may_assign_in f frames.Arrives = false
may_assign_in f (frames.StepsOver x) = false

-- a point assigns a flag by its list only where the assignment is live
abbrev pub AssignsLiveOnly : Program → List Contract → frames.UnrolledProgram → Type 0
AssignsLiveOnly p contracts u = (i f : ℕ) → i < length u.points → f < 4 → may_assign_in f (frames.point_at u i).does ≡ true →
    IsLiveWith p contracts f (frames.point_at u i).point.at
