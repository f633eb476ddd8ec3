-- The lists of LDRH, STRH, LDRSB and LDRSH (section A3.11).
use Rattle.std.specs.Prelude.{ℕ}
use Rattle.word_spec.specs.Memory.{Endian}
use Rattle.machine_spec.specs.Bil as bil
use Rattle.machine_spec.specs.Bil.{RRegisters, Mem, Expression, Var, Load, Store, Cast, Statements, Empty, Assign}
use Rattle.arm_decode.specs.declared.parts.HalfwordOffset as offsets
use Rattle.arm_decode.specs.declared.parts.HalfwordOffset.TheVariants as offset
use Rattle.arm_decode.specs.declared.parts.HalfwordOp.{HalfwordOp}
use Rattle.arm_decode.specs.declared.parts.HalfwordOp.TheVariants.{Ldrh, Ldrsb, Ldrsh, Strh}
use Rattle.arm_decode.specs.declared.halfwords.HalfwordFields.{HalfwordFields}
use Rattle.arm_lift_alu.specs.Lifted.{number}
use Rattle.arm_lift_alu.specs.Operands.{own, register}
use Rattle.arm_lift_mem.specs.Accesses.{address, address_again, written_back, unless}

-- the offset (section A5.3)
abbrev pub offset_of : offsets.HalfwordOffset → ℕ → Expression
offset_of (offset.Number n) at = number n
offset_of (offset.Register r) at = register r.number at

-- an address is odd
abbrev pub is_odd : Expression → Expression
is_odd a = Cast bil.Low 1 a

-- a register takes a value behind the write-back
abbrev pub load_list : HalfwordFields → (value offset : Expression) → Statements
load_list i value offset =
    written_back i.addressing.indexing i.addressing.is_up i.rn.number offset (Assign (bil.Register RRegisters i.rd.number) value Empty)

-- the address before the write-back, and behind it
abbrev pub place : HalfwordFields → (base offset : Expression) → Expression
place i base offset = address i.addressing.indexing i.addressing.is_up base offset

abbrev pub place_again : HalfwordFields → (base offset : Expression) → Expression
place_again i base offset = address_again i.addressing.indexing i.addressing.is_up base offset

-- the low half of a register goes to memory before the write-back
abbrev pub store_list : HalfwordFields → Endian → (base offset : Expression) → Statements
store_list i o base offset =
    Assign Mem (Store (Var Mem) (place i base offset) o 16 (Cast bil.Low 16 (own i.rd.number)))
    (written_back i.addressing.indexing i.addressing.is_up i.rn.number offset Empty)

-- a halfword at an odd address is an exception; a load comes behind the write-back, a store before it
abbrev pub access_by : HalfwordOp → HalfwordFields → Endian → (base offset : Expression) → Statements
access_by Ldrh i o base offset =
    unless (is_odd (place i base offset)) 4
    (load_list i (Cast bil.Unsigned 32 (Load (Var Mem) (place_again i base offset) o 16)) offset)
access_by Ldrsb i o base offset = load_list i (Cast bil.Signed 32 (Load (Var Mem) (place_again i base offset) o 8)) offset
access_by Ldrsh i o base offset =
    unless (is_odd (place i base offset)) 4
    (load_list i (Cast bil.Signed 32 (Load (Var Mem) (place_again i base offset) o 16)) offset)
access_by Strh i o base offset = unless (is_odd (place i base offset)) 4 (store_list i o base offset)

-- the list of a row that stands at an address
abbrev pub halfword : HalfwordFields → Endian → ℕ → Statements
halfword i o at = access_by i.op i o (register i.rn.number at) (offset_of i.offset at)
