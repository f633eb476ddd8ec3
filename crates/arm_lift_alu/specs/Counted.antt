-- The list of CLZ (section A4.1.13): five stages, by 16, 8, 4, 2 and 1 bits. Each tests the highest bits of a word, and shifts them out where all are 0.
use Rattle.std.specs.Prelude.{ℕ, ◌+◌, ◌-◌}
use Rattle.machine_spec.specs.Bil as bil
use Rattle.machine_spec.specs.Bil.{RRegisters, Local, Expression, Var, Constant, Binary, Unary, Cast, Let, Choose, Extract, Concat, Statements, Empty, Assign}
use Rattle.arm_lift_alu.specs.Operands.{own}

-- the word that a stage begins with, a local by the stage's number
abbrev pub word : ℕ → Expression
word n = Var (Local n 32)

-- whether the highest bits of a stage's word are all 0, a local too
abbrev pub is_clear : ℕ → Expression
is_clear n = Var (Local n 1)

-- what is_clear stands for
abbrev pub test : (n size : ℕ) → Expression
test n k = Binary bil.Equal (Extract 31 (32 - k) (word n)) (Constant k 0)

-- the word that is left of a stage
abbrev pub left : (n size : ℕ) → Expression
left n k = Choose (is_clear n) (Concat (Cast bil.Low (32 - k) (word n)) (Constant k 0)) (word n)

-- a stage, and what follows it
abbrev pub stage : (n size : ℕ) → Expression → Expression
stage n k rest = Let n 1 (test n k) (Let (n + 1) 32 (left n k) rest)

-- the tests as a number
abbrev pub tests : Expression
tests = Concat (is_clear 0) (Concat (is_clear 1) (Concat (is_clear 2) (Concat (is_clear 3) (is_clear 4))))

-- the number of zeros: where the word was 0, one more than the tests tell
abbrev pub zeros : Expression
zeros = Binary bil.Plus (Cast bil.Unsigned 32 tests) (Cast bil.Unsigned 32 (Unary bil.Not (Extract 31 31 (word 5))))

-- the zeros of a register
abbrev pub zeros_of : ℕ → Expression
zeros_of m = Let 0 32 (own m) (stage 0 16 (stage 1 8 (stage 2 4 (stage 3 2 (stage 4 1 zeros)))))

-- the list of CLZ
abbrev pub counted : (d m : ℕ) → Statements
counted d m = Assign (bil.Register RRegisters d) (zeros_of m) Empty
