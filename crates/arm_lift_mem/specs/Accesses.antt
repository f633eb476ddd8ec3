-- What the lists of loads and stores are made of: addresses, bases that are written back, words and bytes.
use Rattle.std.specs.Prelude.{ℕ, Bool, true, false, not}
use Rattle.word_spec.specs.Words.{add, sub}
use Rattle.word_spec.specs.Memory.{Endian}
use Rattle.machine_spec.specs.Bil as bil
use Rattle.machine_spec.specs.Bil.{RRegisters, Mem, Local, Expression, Var, Constant, Load, Store, Binary, Cast, Let, Concat, Statements, Empty, Assign, Raise, If}
use Rattle.arm_decode.specs.declared.parts.Indexing.{Indexing}
use Rattle.arm_decode.specs.declared.parts.Indexing.TheVariants as indexing
use Rattle.arm_decode.specs.declared.parts.Offset as offsets
use Rattle.arm_decode.specs.declared.parts.Offset.TheVariants as offset
use Rattle.arm_lift_alu.specs.declared.shifter.CarryIn.TheVariants.{Flag}
use Rattle.arm_lift_alu.specs.Lifted.{number}
use Rattle.arm_lift_alu.specs.Operands.{own, register, rotated, by_number}

-- the offset of LDR and STR (section A5.2)
abbrev pub offset_of : offsets.Offset → ℕ → Expression
offset_of (offset.Number n) at = number n
offset_of (offset.Shifted r kind amount) at = by_number kind Flag (register r.number at) amount.bits

-- the base with the offset added or subtracted
abbrev pub moved : (up : Bool) → Expression → Expression → Expression
moved true base offset = Binary bil.Plus base offset
moved false base offset = Binary bil.Minus base offset

-- the same between numbers
abbrev pub moved_number : (up : Bool) → ℕ → ℕ → ℕ
moved_number true base offset = add 32 base offset
moved_number false base offset = sub 32 base offset

-- the address of an access, before the base is written
abbrev pub address : Indexing → (up : Bool) → Expression → Expression → Expression
address indexing.Offset up base offset = moved up base offset
address indexing.Pre up base offset = moved up base offset
address indexing.Post up base offset = base

-- the same address, found again behind the write-back: it is the base, or what the base was
abbrev pub address_again : Indexing → (up : Bool) → Expression → Expression → Expression
address_again indexing.Offset up base offset = moved up base offset
address_again indexing.Pre up base offset = base
address_again indexing.Post up base offset = moved (not up) base offset

-- the base is written back, where the addressing says so, before other statements
abbrev pub written_back : Indexing → (up : Bool) → (rn : ℕ) → (offset : Expression) → Statements → Statements
written_back indexing.Offset up n offset rest = rest
written_back indexing.Pre up n offset rest = Assign (bil.Register RRegisters n) (moved up (own n) offset) rest
written_back indexing.Post up n offset rest = Assign (bil.Register RRegisters n) (moved up (own n) offset) rest

-- the multiple of 4 at or below an address
abbrev pub aligned : Expression → Expression
aligned a = Binary bil.And a (number 0xfffffffc)

-- by how much the word at an address that is no multiple of 4 is rotated: 8 for each byte
abbrev pub turn : Expression → Expression
turn a = Cast bil.Unsigned 64 (Concat (Cast bil.Low 2 a) (Constant 3 0))

-- the word that a rotation takes twice, and a load once
abbrev pub twice : Expression
twice = Var (Local 0 32)

-- the word at a place, rotated to the right
abbrev pub word : Endian → (place amount : Expression) → Expression
word o place amount = Let 0 32 (Load (Var Mem) place o 32) (rotated twice amount)

-- a byte, or a word rotated so that the addressed byte is the lowest (section A3.11)
abbrev pub loaded : (byte : Bool) → Endian → Expression → Expression
loaded true o a = Cast bil.Unsigned 32 (Load (Var Mem) a o 8)
loaded false o a = word o (aligned a) (turn a)

-- a byte, or the aligned word, takes a value
abbrev pub stored : (byte : Bool) → Endian → (address value : Expression) → Expression
stored true o a v = Store (Var Mem) a o 8 (Cast bil.Low 8 v)
stored false o a v = Store (Var Mem) (aligned a) o 32 v

-- an exception where a bit is set, and else the statements
abbrev pub unless : Expression → (exception : ℕ) → Statements → Statements
unless test n rest = If test (Raise n Empty) Empty rest
