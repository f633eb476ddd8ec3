-- The lists of SWP and SWPB (section A3.13).
use Rattle.std.specs.Prelude.{ℕ, ◌==◌, Bool, true, false}
use Rattle.word_spec.specs.Memory.{Endian}
use Rattle.machine_spec.specs.Bil as bil
use Rattle.machine_spec.specs.Bil.{RRegisters, Mem, Expression, Var, Load, Binary, Cast, Statements, Empty, Assign}
use Rattle.arm_decode.specs.declared.swaps.SwapFields.{SwapFields}
use Rattle.arm_lift_alu.specs.Operands.{own}
use Rattle.arm_lift_mem.specs.Accesses.{aligned, loaded, stored}

-- what is left of a register that was added to what was loaded, once the register itself stands in memory
abbrev pub left_over : (byte : Bool) → Endian → (sum address : Expression) → Expression
left_over true o x a = Cast bil.Unsigned 32 (Binary bil.Minus (Cast bil.Low 8 x) (Load (Var Mem) a o 8))
left_over false o x a = Binary bil.Minus x (Load (Var Mem) (aligned a) o 32)

-- Rd takes what was in memory, and memory takes Rm. Where Rd is Rm, what was loaded is added to it, taken off it where it is stored, and then it is taken off
-- itself.
abbrev pub swap_by : (same byte : Bool) → Endian → (rn rd rm : ℕ) → Statements
swap_by false b o n d m =
    Assign (bil.Register RRegisters d) (loaded b o (own n)) (Assign Mem (stored b o (own n) (own m)) Empty)
swap_by true b o n d m =
    Assign (bil.Register RRegisters d) (Binary bil.Plus (own d) (loaded b o (own n)))
    (Assign Mem (stored b o (own n) (Binary bil.Minus (own d) (loaded b o (own n))))
    (Assign (bil.Register RRegisters d) (left_over b o (own d) (own n)) Empty))

-- the list
abbrev pub swap : SwapFields → Endian → Statements
swap i o = swap_by (i.rd.number == i.rm.number) i.is_byte o i.rn.number i.rd.number i.rm.number
