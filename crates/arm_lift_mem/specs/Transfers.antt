-- The lists of LDR, LDRB, STR and STRB (section A3.11).
use Rattle.std.specs.Prelude.{ℕ, ◌*◌, ◌%◌, ◌==◌, ◌&&◌, not, Bool, true, false, Option, Some, None}
use Rattle.word_spec.specs.Words as words
use Rattle.word_spec.specs.Words.{add}
use Rattle.word_spec.specs.Memory.{Endian}
use Rattle.machine_spec.specs.Bil as bil
use Rattle.machine_spec.specs.Bil.{RRegisters, Bits, Mem, Expression, Var, Constant, Load, Binary, Cast, Unknown, Choose, Statements, Empty, Assign, JumpTo, Raise}
use Rattle.arm_decode.specs.declared.parts.Indexing.{Indexing}
use Rattle.arm_decode.specs.declared.parts.Indexing.TheVariants as indexing
use Rattle.arm_decode.specs.declared.parts.Offset as offsets
use Rattle.arm_decode.specs.declared.parts.Offset.TheVariants as offset
use Rattle.arm_decode.specs.declared.transfers.TransferFields.{TransferFields}
use Rattle.arm_lift_alu.specs.Lifted.{number}
use Rattle.arm_lift_alu.specs.Operands.{own, register}
use Rattle.arm_lift_mem.specs.Accesses.{offset_of, moved_number, address, address_again, written_back, word, loaded, stored, unless}

-- the base is written back
abbrev pub writes_back : Indexing → Bool
writes_back indexing.Offset = false
writes_back indexing.Pre = true
writes_back indexing.Post = true

-- an address that is made of r15 and a number, of a row that stands at an address
abbrev pub literal_by : (is_literal : Bool) → (up : Bool) → offsets.Offset → ℕ → Option ℕ
literal_by true up (offset.Number n) at = Some (moved_number up (add 32 at 8) n)
literal_by true up (offset.Shifted r kind amount) at = None
literal_by false up o at = None

-- the address of a literal's load, before it is aligned
abbrev pub literal : TransferFields → ℕ → Option ℕ
literal i at =
    literal_by (i.is_load && not i.is_byte && (i.rn.number == 15) && not (writes_back i.addressing.indexing)) i.addressing.is_up i.offset at

-- The word of a literal goes to a register, or to r15 by a jump. An address that is no multiple of 4 makes a rotation, or an exception.
abbrev pub literal_list : (to_pc is_aligned : Bool) → Endian → (rd address : ℕ) → Statements
literal_list true true o d a = JumpTo (Load (Var Mem) (number (words.aligned a)) o 32) Empty
literal_list true false o d a = Raise 5 Empty
literal_list false true o d a = Assign (bil.Register RRegisters d) (Load (Var Mem) (number (words.aligned a)) o 32) Empty
literal_list false false o d a =
    Assign (bil.Register RRegisters d) (word o (number (words.aligned a)) (Constant 64 (8 * (a % 4)))) Empty

-- what STR stores of r15, by the choice, and of another register
abbrev pub source_by : (is_pc : Bool) → (rd at : ℕ) → Expression
source_by true d at = Choose (Unknown (Bits 1)) (number (add 32 at 12)) (number (add 32 at 8))
source_by false d at = own d

-- what STR stores
abbrev pub source : (rd at : ℕ) → Expression
source d at = source_by (d == 15) d at

-- an address is no multiple of 4
abbrev pub is_unaligned : Expression → Expression
is_unaligned a = Binary bil.NotEqual (Cast bil.Low 2 a) (Constant 2 0)

-- A load to a register behind the write-back, a load to r15 before it, or a store before it. The parts are the base and the offset.
abbrev pub access_by : (load to_pc : Bool) → TransferFields → Endian → (at : ℕ) → (base offset : Expression) → Statements
access_by true false i o at base offset =
    written_back i.addressing.indexing i.addressing.is_up i.rn.number offset
    (Assign (bil.Register RRegisters i.rd.number) (loaded i.is_byte o (address_again i.addressing.indexing i.addressing.is_up base offset)) Empty)
access_by true true i o at base offset =
    unless (is_unaligned (address i.addressing.indexing i.addressing.is_up base offset)) 5
    (JumpTo (Load (Var Mem) (address i.addressing.indexing i.addressing.is_up base offset) o 32)
    (written_back i.addressing.indexing i.addressing.is_up i.rn.number offset Empty))
access_by false to_pc i o at base offset =
    Assign Mem (stored i.is_byte o (address i.addressing.indexing i.addressing.is_up base offset) (source i.rd.number at))
    (written_back i.addressing.indexing i.addressing.is_up i.rn.number offset Empty)

-- the same with the base and the offset of the row
abbrev pub accessed : (load to_pc : Bool) → TransferFields → Endian → ℕ → Statements
accessed load to_pc i o at = access_by load to_pc i o at (register i.rn.number at) (offset_of i.offset at)

-- a literal's load, or another access
abbrev pub transfer_by : Option ℕ → TransferFields → Endian → ℕ → Statements
transfer_by (Some a) i o at = literal_list (i.rd.number == 15) (a % 4 == 0) o i.rd.number a
transfer_by None i o at = accessed i.is_load (i.rd.number == 15) i o at

-- the list of a row that stands at an address
abbrev pub transfer : TransferFields → Endian → ℕ → Statements
transfer i o at = transfer_by (literal i at) i o at
