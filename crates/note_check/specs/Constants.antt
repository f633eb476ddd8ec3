-- Lines of constants alone.
use Rattle.std.specs.Prelude.{◌≡◌, ◌&&◌, Bool, true, false, List, ◌++◌, map, filter}
use Rattle.word_spec.specs.Memory.{Endian}
use Rattle.word_spec.specs.State.{State}
use Rattle.bilv_spec.specs.Notes.{Expr, Number, Register, Flag, Pc, Bound, Memory, Old, Not, Binary, Notes, NoteLine, value}
use Rattle.note_check.specs.declared.warning.Warning.{Warning}
use Rattle.note_check.specs.declared.warning.Warning.TheVariants.{ConstantRequire, ConstantEnsure}

-- the expression names no register, no flag, no byte of memory and not the address of the step, neither in the state now nor in that at entry
abbrev pub is_constant : Expr → Bool
is_constant (Number n) = true
is_constant (Register r) = false
is_constant (Flag f) = false
is_constant Pc = false
is_constant Bound = true
is_constant (Memory n a) = false
is_constant (Old a) = is_constant a
is_constant (Not a) = is_constant a
is_constant (Binary op a b) = is_constant a && is_constant b

-- the lines that say so, in their order
abbrev pub constant_among : List NoteLine → List NoteLine
constant_among lines = filter (λ l. is_constant l.says) lines

-- the warnings of require lines, then those of ensure lines
abbrev pub constant_warnings : Notes → List Warning
constant_warnings n =
    map (λ l. ConstantRequire l.line) (constant_among n.requires) ++ map (λ l. ConstantEnsure l.line) (constant_among n.ensures)

-- what names no part of a state has one value, whatever the states are
abbrev pub AreSteady : Type 0
AreSteady =
    (order : Endian) (e : Expr) (now entry other first : State) → is_constant e ≡ true → value order e now entry ≡ value order e other first
