-- What operations ask fits its field.
use Rattle.std.proofs.Common.{◌<◌, lit<}
use Rattle.rv_decode.specs.declared.plain.ImmediateOp.{ImmediateOp}
use Rattle.rv_decode.specs.declared.plain.ImmediateOp.TheVariants.{Addi}
use Rattle.rv_decode.specs.declared.plain.ShiftOp.{ShiftOp}
use Rattle.rv_decode.specs.declared.plain.ShiftOp.TheVariants.{Slli}
use Rattle.rv_decode.specs.declared.plain.RegisterOp.{RegisterOp}
use Rattle.rv_decode.specs.declared.plain.RegisterOp.TheVariants.{Add}
use Rattle.rv_decode.specs.Operations.{immediate_line, shift_line, register_line}

pub immediate_small : (op : ImmediateOp) → (immediate_line op).funct3 < 8
immediate_small Addi = lit< tt
immediate_small op = lit< tt

pub shift_small : (op : ShiftOp) → (shift_line op).funct3 < 8
shift_small Slli = lit< tt
shift_small op = lit< tt

pub shift_upper_small : (op : ShiftOp) → (shift_line op).funct7 < 128
shift_upper_small Slli = lit< tt
shift_upper_small op = lit< tt

pub register_small : (op : RegisterOp) → (register_line op).funct3 < 8
register_small Add = lit< tt
register_small op = lit< tt

pub register_upper_small : (op : RegisterOp) → (register_line op).funct7 < 128
register_upper_small Add = lit< tt
register_upper_small op = lit< tt
