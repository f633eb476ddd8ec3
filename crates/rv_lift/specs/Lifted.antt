-- The list that each instruction is lifted to.
use Rattle.std.specs.Prelude.{ℕ, zero, suc}
use Rattle.word_spec.specs.Words.{add}
use Rattle.word_spec.specs.Memory.{Little}
use Rattle.machine_spec.specs.Bil as bil
use Rattle.machine_spec.specs.Bil.{XRegisters, Mem, Expression, Var, Constant, Load, Store, Binary, Unary, Cast, Statements, Empty, Assign, JumpTo, Raise, If}
use Rattle.rv_decode.specs.declared.plain.BranchOp.{BranchOp}
use Rattle.rv_decode.specs.declared.plain.BranchOp.TheVariants.{Beq, Bne, Blt, Bge, Bltu, Bgeu}
use Rattle.rv_decode.specs.declared.plain.LoadOp.{LoadOp}
use Rattle.rv_decode.specs.declared.plain.LoadOp.TheVariants.{Lb, Lh, Lw, Lbu, Lhu}
use Rattle.rv_decode.specs.declared.plain.StoreOp.{StoreOp}
use Rattle.rv_decode.specs.declared.plain.StoreOp.TheVariants.{Sb, Sh, Sw}
use Rattle.rv_decode.specs.declared.plain.Plain.{Plain}
use Rattle.rv_decode.specs.declared.plain.Plain.TheVariants as plain
use Rattle.rv_decode.specs.Operations.{immediate_line, shift_line, register_line}
use Rattle.word_formula.specs.Formulas.{expression_of}

-- a word
abbrev pub number : ℕ → Expression
number v = Constant 32 v

-- what a register reads: x0 the constant 0
abbrev pub register : ℕ → Expression
register zero = number 0
register (suc r) = Var (bil.Register XRegisters (suc r))

-- a register's word and an offset
abbrev pub address : ℕ → ℕ → Expression
address r offset = Binary bil.Plus (register r) (number offset)

-- what a branch tests
abbrev pub test : BranchOp → Expression → Expression → Expression
test Beq a b = Binary bil.Equal a b
test Bne a b = Binary bil.NotEqual a b
test Blt a b = Binary bil.SignedLess a b
test Bge a b = Unary bil.Not (Binary bil.SignedLess a b)
test Bltu a b = Binary bil.Less a b
test Bgeu a b = Unary bil.Not (Binary bil.Less a b)

-- what a load makes of the bytes at an address
abbrev pub loaded : LoadOp → Expression → Expression
loaded Lb a = Cast bil.Signed 32 (Load (Var Mem) a Little 8)
loaded Lh a = Cast bil.Signed 32 (Load (Var Mem) a Little 16)
loaded Lw a = Load (Var Mem) a Little 32
loaded Lbu a = Cast bil.Unsigned 32 (Load (Var Mem) a Little 8)
loaded Lhu a = Cast bil.Unsigned 32 (Load (Var Mem) a Little 16)

-- the memory with a word's low bytes at an address
abbrev pub stored : StoreOp → Expression → Expression → Expression
stored Sb a v = Store (Var Mem) a Little 8 (Cast bil.Low 8 v)
stored Sh a v = Store (Var Mem) a Little 16 (Cast bil.Low 16 v)
stored Sw a v = Store (Var Mem) a Little 32 v

-- a register takes a value; x0 is never assigned
abbrev pub assigned : ℕ → Expression → Statements
assigned zero e = Empty
assigned (suc r) e = Assign (bil.Register XRegisters (suc r)) e Empty

-- the list of an instruction that has a length in bytes and stands at an address
abbrev pub lifted : Plain → (length at : ℕ) → Statements
lifted (plain.Lui rd imm) n at = assigned rd.number (number imm)
lifted (plain.Auipc rd imm) n at = assigned rd.number (number (add 32 at imm))
lifted (plain.Jal rd offset) n at = JumpTo (number (add 32 at offset)) (assigned rd.number (number (add 32 at n)))
lifted (plain.Jalr rd rs1 offset) n at =
    JumpTo (Binary bil.And (address rs1.number offset) (number 0xfffffffe)) (assigned rd.number (number (add 32 at n)))
lifted (plain.Branch op rs1 rs2 offset) n at =
    If (test op (register rs1.number) (register rs2.number)) (JumpTo (number (add 32 at offset)) Empty) Empty Empty
lifted (plain.Load op rd rs1 offset) n at = assigned rd.number (loaded op (address rs1.number offset))
lifted (plain.Store op rs1 rs2 offset) n at = Assign Mem (stored op (address rs1.number offset) (register rs2.number)) Empty
lifted (plain.Immediate op rd rs1 imm) n at = assigned rd.number (expression_of (immediate_line op).formula (register rs1.number) (number imm))
lifted (plain.Shift op rd rs1 amount) n at = assigned rd.number (expression_of (shift_line op).formula (register rs1.number) (number amount.bits))
lifted (plain.Computation op rd rs1 rs2) n at = assigned rd.number (expression_of (register_line op).formula (register rs1.number) (register rs2.number))
lifted (plain.Fence fields) n at = Empty
lifted plain.Ecall n at = Raise 1 Empty
lifted plain.Ebreak n at = Raise 2 Empty
