-- The lines of computations and shifts, by their places among the variants.
use Rattle.std.specs.Prelude.{get_or}
use denote.Enum.Declared.{tag_of}
use Rattle.bil_ast.specs.declared.names.BinaryOp.TheVariants.{Plus}
use Rattle.word_formula.specs.declared.formula.Formula.TheVariants.{Operator}
use Rattle.rv_decode.specs.declared.operations.Operation.{Operation}
use Rattle.rv_decode.specs.declared.operations.TheConstants.{IMMEDIATES, SHIFTS, REGISTERS}
use Rattle.rv_decode.specs.declared.plain.ImmediateOp.{ImmediateOp}
use Rattle.rv_decode.specs.declared.plain.ShiftOp.{ShiftOp}
use Rattle.rv_decode.specs.declared.plain.RegisterOp.{RegisterOp}
use Rattle.rv_decode.specs.contracts.plain.ImmediateOp as immediates
use Rattle.rv_decode.specs.contracts.plain.ShiftOp as shifts
use Rattle.rv_decode.specs.contracts.plain.RegisterOp as registers

-- what stands behind the lists, where no operation is
abbrev no_operation : Operation
no_operation = record { funct3 = 0; funct7 = 0; formula = Operator Plus; price = 0 }

abbrev pub immediate_line : ImmediateOp → Operation
immediate_line op = get_or IMMEDIATES (tag_of immediates.the_type op) no_operation

abbrev pub shift_line : ShiftOp → Operation
shift_line op = get_or SHIFTS (tag_of shifts.the_type op) no_operation

abbrev pub register_line : RegisterOp → Operation
register_line op = get_or REGISTERS (tag_of registers.the_type op) no_operation
