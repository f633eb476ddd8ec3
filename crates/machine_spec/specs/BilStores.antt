-- Which bytes a list of statements stores while it is executed.
use Rattle.std.specs.Prelude.{ℕ, zero, suc, ◌/◌, Option, Some, None, List, [], ◌++◌}
use Rattle.word_spec.specs.Memory.{span}
use Rattle.machine_spec.specs.Bil.{Local, Expression, Var, Constant, Load, Store, Binary, Unary, Cast, Let, Unknown, Choose, Extract, Concat, Statements, Empty, Assign, JumpTo, Raise, Special, While, If}
use Rattle.machine_spec.specs.BilMeaning.{Value, Word, Bytes, Stuck, Env, assign, evaluate, Position, Ending, Ends, RaisesException, OutOfTurns, Wrong, assigned, jumped, branch_on, execute}

-- the addresses of n bytes from the one that a value gives
abbrev pub bytes_at : ℕ → Value → List ℕ
bytes_at n (Word k a) = span a n
bytes_at n (Bytes m) = []
bytes_at n Stuck = []

-- what the side stores that a condition chooses
abbrev pub chosen : Value → List ℕ → List ℕ → List ℕ
chosen (Word n zero) then_part else_part = else_part
chosen (Word n (suc v)) then_part else_part = then_part
chosen (Bytes m) then_part else_part = []
chosen Stuck then_part else_part = []

-- what is stored in an environment, if there is one
abbrev pub stored_in : Option Env → (Env → List ℕ) → List ℕ
stored_in None f = []
stored_in (Some e) f = f e

-- the addresses of the bytes that an expression stores, of a choice only its chosen side
abbrev pub stored_by : Expression → ℕ → Env → List ℕ
stored_by (Var x) c e = []
stored_by (Constant n v) c e = []
stored_by (Load m a o n) c e = stored_by m c e ++ stored_by a c e
stored_by (Store m a o n v) c e = stored_by m c e ++ stored_by a c e ++ stored_by v c e ++ bytes_at (n / 8) (evaluate a c e)
stored_by (Binary o a b) c e = stored_by a c e ++ stored_by b c e
stored_by (Unary o a) c e = stored_by a c e
stored_by (Cast k n a) c e = stored_by a c e
stored_by (Let x n a b) c e = stored_by a c e ++ stored_in (assign (Local x n) (evaluate a c e) e) (stored_by b c)
stored_by (Unknown t) c e = []
stored_by (Choose t a b) c e = stored_by t c e ++ chosen (evaluate t c e) (stored_by a c e) (stored_by b c e)
stored_by (Extract hi lo a) c e = stored_by a c e
stored_by (Concat a b) c e = stored_by a c e ++ stored_by b c e

-- what is stored after a list that ended
abbrev pub then_stored : Ending → (Position → List ℕ) → List ℕ
then_stored (Ends s) f = f s
then_stored (RaisesException n s) f = []
then_stored (OutOfTurns s) f = []
then_stored Wrong f = []

-- the addresses of the bytes that a list without loops stores, up to its end or its exception
abbrev pub list_stored : Statements → ℕ → Position → List ℕ
list_stored Empty c s = []
list_stored (Assign x e rest) c s = stored_by e c s.env ++ then_stored (assigned (assign x (evaluate e c s.env) s.env) s) (list_stored rest c)
list_stored (JumpTo e rest) c s = stored_by e c s.env ++ then_stored (jumped (evaluate e c s.env) s) (list_stored rest c)
list_stored (Raise n rest) c s = []
list_stored (Special t rest) c s = list_stored rest c s
list_stored (While e body rest) c s = []
list_stored (If e a b rest) c s =
    stored_by e c s.env ++ chosen (evaluate e c s.env) (list_stored a c s) (list_stored b c s)
    ++ then_stored (branch_on (evaluate e c s.env) (execute a c s) (execute b c s)) (list_stored rest c)
