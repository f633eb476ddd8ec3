-- What lists of statements have in them: a weight, loads and stores, unknowns, nesting, variables, and the flags that they read and assign.
use Rattle.std.specs.Prelude.{ℕ, ◌+◌, ◌*◌, ◌-◌, ◌/◌, Bool, true, false, ◌&&◌, ◌||◌, not, ◌==◌, max, if◌then◌else◌}
use Rattle.word_spec.specs.Memory.{Endian, Little, Big}
use Rattle.machine_spec.specs.Machine.{Machine}
use Rattle.machine_spec.specs.Bil.{Bank, XRegisters, RRegisters, BilVariable, Register, Flag, Mem, Local, BinaryOp, Plus, Minus, Times, Divide, SignedDivide, Modulo, SignedModulo, And, Or, Xor, ShiftLeft, ShiftRight, ShiftSigned, Equal, NotEqual, Less, LessEqual, SignedLess, SignedLessEqual, Negate, Expression, Var, Constant, Load, Store, Binary, Unary, Cast, Let, Unknown, Choose, Extract, Concat, Statements, Empty, Assign, JumpTo, Raise, Special, While, If, type_of, total, list_total}
use Rattle.machine_spec.specs.BilTyping.{result_width, type_width}

-- the width of a well typed expression, 0 of a memory
abbrev pub width : Expression → ℕ
width (Var x) = type_width (type_of x)
width (Constant n v) = n
width (Load m a e n) = n
width (Store m a e n v) = 0
width (Binary o a b) = result_width o (width a)
width (Unary o a) = width a
width (Cast k n a) = n
width (Let x n a b) = width b
width (Unknown t) = type_width t
width (Choose c a b) = width a
width (Extract hi lo a) = hi + 1 - lo
width (Concat a b) = width a + width b

-- an operator's weight at a width: a bound on the gates that its circuit takes
abbrev pub op_weight : BinaryOp → ℕ → ℕ
op_weight Plus n = 2 * n
op_weight Minus n = 2 * n
op_weight Times n = 3 * n * n
op_weight Divide n = n * (3 * n + 2)
op_weight SignedDivide n = n * (3 * n + 13) + 1
op_weight Modulo n = n * (3 * n + 2)
op_weight SignedModulo n = n * (3 * n + 11)
op_weight And n = n
op_weight Or n = n
op_weight Xor n = n
op_weight ShiftLeft n = 8 * n
op_weight ShiftRight n = 8 * n
op_weight ShiftSigned n = 10 * n
op_weight Equal n = n
op_weight NotEqual n = n
op_weight Less n = n
op_weight LessEqual n = n
op_weight SignedLess n = n
op_weight SignedLessEqual n = n

-- a node's own weight; loads and stores are priced apart, and what only picks bits has none
abbrev pub own_weight : Expression → ℕ
own_weight (Binary o a b) = op_weight o (width a)
own_weight (Unary Negate a) = 3 * width a
own_weight (Choose c a b) = width a
own_weight e = 0

-- the weight of an expression
abbrev pub weight : Expression → ℕ
weight e = total own_weight e

-- The weight of a list: its expressions, its assignments, which take two choices for each bit, since an if nests at most two deep, its jumps, its exceptions
-- and its ifs.
abbrev pub list_weight : Statements → ℕ
list_weight Empty = 0
list_weight (Assign x e rest) = 2 * type_width (type_of x) + weight e + list_weight rest
list_weight (JumpTo e rest) = 64 + weight e + list_weight rest
list_weight (Raise n rest) = 4 + list_weight rest
list_weight (Special t rest) = list_weight rest
list_weight (While e body rest) = weight e + list_weight body + list_weight rest
list_weight (If e a b rest) = 4 + weight e + list_weight a + list_weight b + list_weight rest

-- the bytes that a node itself loads
abbrev pub own_loads : Expression → ℕ
own_loads (Load m a e n) = n / 8
own_loads e = 0

-- how many bytes a list loads
abbrev pub byte_loads : Statements → ℕ
byte_loads list = list_total (total own_loads) list

-- the bytes that a node itself stores
abbrev pub own_stores : Expression → ℕ
own_stores (Store m a e n v) = n / 8
own_stores e = 0

-- how many bytes a list stores
abbrev pub byte_stores : Statements → ℕ
byte_stores list = list_total (total own_stores) list

-- a node is a choice between memories, which no weight pays for
abbrev pub own_memory_choices : Expression → ℕ
own_memory_choices (Choose c a b) = if width a == 0 then 1 else 0
own_memory_choices e = 0

-- how many choices between memories a list has
abbrev pub memory_choices : Statements → ℕ
memory_choices list = list_total (total own_memory_choices) list

-- how many bytes the sides of a choice store, under guards that no weight pays for
abbrev pub own_chosen_stores : Expression → ℕ
own_chosen_stores (Choose c a b) = total own_stores a + total own_stores b
own_chosen_stores e = 0

-- how many bytes the sides of a list's choices store
abbrev pub chosen_stores : Statements → ℕ
chosen_stores list = list_total (total own_chosen_stores) list

-- two byte orders are one
abbrev pub same_order : Endian → Endian → Bool
same_order Little Little = true
same_order Big Big = true
same_order e f = false

-- a node is a load, but not of the word at a constant address, in a byte order, out of the machine's memory
abbrev pub own_other_loads : Endian → (address : ℕ) → Expression → ℕ
own_other_loads e a (Load (Var Mem) (Constant w v) f n) = if same_order e f && (w == 32) && (v == a) && (n == 32) then 0 else 1
own_other_loads e a (Load m b f n) = 1
own_other_loads e a x = 0

-- how many loads of a list are not of that word
abbrev pub other_loads : Endian → (address : ℕ) → Statements → ℕ
other_loads e a list = list_total (total (own_other_loads e a)) list

-- a node is an unknown
abbrev pub own_unknowns : Expression → ℕ
own_unknowns (Unknown t) = 1
own_unknowns e = 0

-- how many unknowns a list has
abbrev pub unknowns : Statements → ℕ
unknowns list = list_total (total own_unknowns) list

-- the list has no loop
abbrev pub has_no_loop : Statements → Bool
has_no_loop Empty = true
has_no_loop (Assign x e rest) = has_no_loop rest
has_no_loop (JumpTo e rest) = has_no_loop rest
has_no_loop (Raise n rest) = has_no_loop rest
has_no_loop (Special t rest) = has_no_loop rest
has_no_loop (While e body rest) = false
has_no_loop (If e a b rest) = has_no_loop a && has_no_loop b && has_no_loop rest

-- the list has no special statement
abbrev pub has_no_special : Statements → Bool
has_no_special Empty = true
has_no_special (Assign x e rest) = has_no_special rest
has_no_special (JumpTo e rest) = has_no_special rest
has_no_special (Raise n rest) = has_no_special rest
has_no_special (Special t rest) = false
has_no_special (While e body rest) = has_no_special body && has_no_special rest
has_no_special (If e a b rest) = has_no_special a && has_no_special b && has_no_special rest

-- how deep ifs stand in one another
abbrev pub nesting : Statements → ℕ
nesting Empty = 0
nesting (Assign x e rest) = nesting rest
nesting (JumpTo e rest) = nesting rest
nesting (Raise n rest) = nesting rest
nesting (Special t rest) = nesting rest
nesting (While e body rest) = max (nesting body) (nesting rest)
nesting (If e a b rest) = max (1 + max (nesting a) (nesting b)) (nesting rest)

-- the variable is a local
abbrev pub is_local : (number width : ℕ) → BilVariable → Bool
is_local x n (Local y m) = (y == x) && (m == n)
is_local x n (Register b r) = false
is_local x n (Flag f) = false
is_local x n Mem = false

-- the expression names only known variables, and locals under their let
abbrev pub names_only : Expression → (known : BilVariable → Bool) → Bool
names_only (Var x) known = known x
names_only (Constant n v) known = true
names_only (Load m a e n) known = names_only m known && names_only a known
names_only (Store m a e n v) known = names_only m known && names_only a known && names_only v known
names_only (Binary o a b) known = names_only a known && names_only b known
names_only (Unary o a) known = names_only a known
names_only (Cast k n a) known = names_only a known
names_only (Let x n a b) known = names_only a known && names_only b (λ y. is_local x n y || known y)
names_only (Unknown t) known = true
names_only (Choose c a b) known = names_only c known && names_only a known && names_only b known
names_only (Extract hi lo a) known = names_only a known
names_only (Concat a b) known = names_only a known && names_only b known

-- the list names only known variables, those that it assigns among them
abbrev pub list_names_only : Statements → (known : BilVariable → Bool) → Bool
list_names_only Empty known = true
list_names_only (Assign x e rest) known = known x && names_only e known && list_names_only rest known
list_names_only (JumpTo e rest) known = names_only e known && list_names_only rest known
list_names_only (Raise n rest) known = list_names_only rest known
list_names_only (Special t rest) known = list_names_only rest known
list_names_only (While e body rest) known = names_only e known && list_names_only body known && list_names_only rest known
list_names_only (If e a b rest) known = names_only e known && list_names_only a known && list_names_only b known && list_names_only rest known

-- two banks are one
abbrev pub is_bank : Bank → Bank → Bool
is_bank XRegisters XRegisters = true
is_bank RRegisters RRegisters = true
is_bank a b = false

-- the variables of a machine, whose registers have a letter: its registers and flags, and the memory
abbrev pub is_own : Machine → Bank → BilVariable → Bool
is_own m bank (Register b r) = is_bank b bank && m.has_register r
is_own m bank (Flag f) = m.has_flag f
is_own m bank Mem = true
is_own m bank (Local x n) = false

-- the variable is the flag
abbrev pub is_flag : ℕ → BilVariable → Bool
is_flag f (Flag g) = g == f
is_flag f (Register b r) = false
is_flag f Mem = false
is_flag f (Local x n) = false

-- the expression reads the flag
abbrev pub reads_flag : ℕ → Expression → Bool
reads_flag f (Var x) = is_flag f x
reads_flag f (Constant n v) = false
reads_flag f (Load m a e n) = reads_flag f m || reads_flag f a
reads_flag f (Store m a e n v) = reads_flag f m || reads_flag f a || reads_flag f v
reads_flag f (Binary o a b) = reads_flag f a || reads_flag f b
reads_flag f (Unary o a) = reads_flag f a
reads_flag f (Cast k n a) = reads_flag f a
reads_flag f (Let x n a b) = reads_flag f a || reads_flag f b
reads_flag f (Unknown t) = false
reads_flag f (Choose c a b) = reads_flag f c || reads_flag f a || reads_flag f b
reads_flag f (Extract hi lo a) = reads_flag f a
reads_flag f (Concat a b) = reads_flag f a || reads_flag f b

-- the list assigns the flag somewhere
abbrev pub may_assign : ℕ → Statements → Bool
may_assign f Empty = false
may_assign f (Assign x e rest) = is_flag f x || may_assign f rest
may_assign f (JumpTo e rest) = may_assign f rest
may_assign f (Raise n rest) = may_assign f rest
may_assign f (Special t rest) = may_assign f rest
may_assign f (While e body rest) = may_assign f body || may_assign f rest
may_assign f (If e a b rest) = may_assign f a || may_assign f b || may_assign f rest

-- the list assigns the flag on every way that ends without an exception
abbrev pub surely_assigns : ℕ → Statements → Bool
surely_assigns f Empty = false
surely_assigns f (Assign x e rest) = is_flag f x || surely_assigns f rest
surely_assigns f (JumpTo e rest) = surely_assigns f rest
surely_assigns f (Raise n rest) = true
surely_assigns f (Special t rest) = surely_assigns f rest
surely_assigns f (While e body rest) = surely_assigns f rest
surely_assigns f (If e a b rest) = (surely_assigns f a && surely_assigns f b) || surely_assigns f rest

-- The list reads the flag only where the first test lets it do so anywhere, or the second in an assignment to the flag itself.
abbrev pub reads_within : ℕ → (anywhere itself : Bool) → Statements → Bool
reads_within f anywhere itself Empty = true
reads_within f anywhere itself (Assign x e rest) =
    (not (reads_flag f e) || anywhere || (itself && is_flag f x)) && reads_within f anywhere itself rest
reads_within f anywhere itself (JumpTo e rest) = (not (reads_flag f e) || anywhere) && reads_within f anywhere itself rest
reads_within f anywhere itself (Raise n rest) = reads_within f anywhere itself rest
reads_within f anywhere itself (Special t rest) = reads_within f anywhere itself rest
reads_within f anywhere itself (While e body rest) =
    (not (reads_flag f e) || anywhere) && reads_within f anywhere itself body && reads_within f anywhere itself rest
reads_within f anywhere itself (If e a b rest) =
    (not (reads_flag f e) || anywhere) && reads_within f anywhere itself a && reads_within f anywhere itself b && reads_within f anywhere itself rest

-- on no way does the list, which has no loop, read the flag after an assignment to it; the test says that one came before the list
abbrev pub reads_first : ℕ → (assigned : Bool) → Statements → Bool
reads_first f assigned Empty = true
reads_first f assigned (Assign x e rest) = not (assigned && reads_flag f e) && reads_first f (assigned || is_flag f x) rest
reads_first f assigned (JumpTo e rest) = not (assigned && reads_flag f e) && reads_first f assigned rest
reads_first f assigned (Raise n rest) = true
reads_first f assigned (Special t rest) = reads_first f assigned rest
reads_first f assigned (While e body rest) = false
reads_first f assigned (If e a b rest) =
    not (assigned && reads_flag f e) && reads_first f assigned a && reads_first f assigned b
    && reads_first f (assigned || may_assign f a || may_assign f b) rest
