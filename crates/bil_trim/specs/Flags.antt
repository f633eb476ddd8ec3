-- Lists without the assignments of flags that nothing reads.
use Rattle.std.specs.Prelude.{ℕ, ◌≡◌, ◌≤◌, ◌&&◌, nat_lt, Bool, true, false, if◌then◌else◌, Contains}
use Rattle.word_spec.specs.Memory.{Endian}
use Rattle.machine_spec.specs.Bil.{BilVariable, Register, Flag, Mem, Local, Statements, Empty, Assign, JumpTo, Raise, Special, While, If}
use Rattle.machine_spec.specs.BilCounts.{other_loads, has_no_loop, may_assign, reads_first}
use Rattle.machine_spec.specs.BilMeaning.{Env, Position, Ending, Ends, RaisesException, OutOfTurns, Wrong, execute}
use Rattle.machine_spec.specs.BilStores.{list_stored}
use Rattle.graph_nodes.specs.Graphs.{has_flag}
use Rattle.bil_trim.specs.Literals.{with_literal}
use Rattle.bil_trim.specs.Parts.{HasNoMore}

-- the flag is one of the four, and the set, N 8, Z 4, C 2 and V 1, has it
abbrev pub kept_in : (set : ℕ) → ℕ → Bool
kept_in set f = nat_lt f 4 && has_flag set f

-- the variable is no flag, or one that is kept
abbrev pub stays : (keeps : ℕ → Bool) → BilVariable → Bool
stays keeps (Register b r) = true
stays keeps (Flag f) = keeps f
stays keeps Mem = true
stays keeps (Local x n) = true

-- the list without the assignments of flags that are not kept
abbrev pub with_flags : (keeps : ℕ → Bool) → Statements → Statements
with_flags keeps Empty = Empty
with_flags keeps (Assign x w rest) = if stays keeps x then Assign x w (with_flags keeps rest) else with_flags keeps rest
with_flags keeps (JumpTo w rest) = JumpTo w (with_flags keeps rest)
with_flags keeps (Raise n rest) = Raise n (with_flags keeps rest)
with_flags keeps (Special t rest) = Special t (with_flags keeps rest)
with_flags keeps (While w body rest) = While w (with_flags keeps body) (with_flags keeps rest)
with_flags keeps (If w x y rest) = If w (with_flags keeps x) (with_flags keeps y) (with_flags keeps rest)

-- the environment with other values for the flags that are not kept
abbrev pub env_with : (keeps : ℕ → Bool) → (others : ℕ → ℕ) → Env → Env
env_with keeps others e = record { regs = e.regs; flags = λ f. if keeps f then e.flags f else others f; mem = e.mem; locals = e.locals }

-- the position with other values for the flags that are not kept
abbrev pub position_with : (keeps : ℕ → Bool) → (others : ℕ → ℕ) → Position → Position
position_with keeps others s = record { env = env_with keeps others s.env; jump = s.jump; turns = s.turns }

-- the ending with other values for the flags that are not kept
abbrev pub ending_with : (keeps : ℕ → Bool) → (others : ℕ → ℕ) → Ending → Ending
ending_with keeps others (Ends s) = Ends (position_with keeps others s)
ending_with keeps others (RaisesException n s) = RaisesException n (position_with keeps others s)
ending_with keeps others (OutOfTurns s) = OutOfTurns (position_with keeps others s)
ending_with keeps others Wrong = Wrong

-- no statement of the list was without a meaning
abbrev pub IsMeant : Ending → Type 0
IsMeant (Ends s) = Unit {0}
IsMeant (RaisesException n s) = Unit {0}
IsMeant (OutOfTurns s) = Unit {0}
IsMeant Wrong = ⊥

-- each flag that is not kept is read by no statement after an assignment to it
abbrev pub AreFree : (keeps : ℕ → Bool) → Statements → Type 0
AreFree keeps list = (f : ℕ) → keeps f ≡ false → reads_first f false list ≡ true

-- A list without loops that has a meaning does the same without assignments of flags that it reads only before, but that it leaves those flags.
abbrev pub FlagsKeepMeaning : Type 0
FlagsKeepMeaning = (keeps : ℕ → Bool) (list : Statements) (c : ℕ) (s : Position) → has_no_loop list ≡ true → AreFree keeps list → IsMeant (execute list c s) →
    execute (with_flags keeps list) c s ≡ ending_with keeps s.env.flags (execute list c s)

-- and it stores no byte more
abbrev pub FlagsStoreNoMore : Type 0
FlagsStoreNoMore = (keeps : ℕ → Bool) (list : Statements) (c : ℕ) (s : Position) → has_no_loop list ≡ true → AreFree keeps list → IsMeant (execute list c s) →
    (a : ℕ) → Contains (list_stored (with_flags keeps list) c s) a → Contains (list_stored list c s) a

-- a list without loops leaves a flag that it does not assign
abbrev pub OtherFlagsStay : Type 0
OtherFlagsStay = (list : Statements) (c f : ℕ) (s t : Position) → has_no_loop list ≡ true → may_assign f list ≡ false → execute list c s ≡ Ends t →
    t.env.flags f ≡ s.env.flags f

-- The list without assignments of flags has no more in it, assigns of the flags that are kept those that it did, and is itself where it assigns no other.
pub record HasFewerFlags (keeps : ℕ → Bool) (list : Statements) : Type 0 where
  pub no_more : HasNoMore (with_flags keeps list) list
  pub loads : (e : Endian) (a : ℕ) → other_loads e a (with_flags keeps list) ≤ other_loads e a list
  pub assigns : (f : ℕ) → may_assign f (with_flags keeps list) ≡ (keeps f && may_assign f list)
  pub same : ((f : ℕ) → may_assign f list ≡ true → keeps f ≡ true) → with_flags keeps list ≡ list

abbrev pub FlagsAddNothing : Type 0
FlagsAddNothing = (keeps : ℕ → Bool) (list : Statements) → HasFewerFlags keeps list

-- a list with a word in place of its loads assigns the same flags
abbrev pub LiteralsAssignTheSame : Type 0
LiteralsAssignTheSame = (e : Endian) (a v f : ℕ) (list : Statements) → may_assign f (with_literal e a v list) ≡ may_assign f list
