-- What the lists are where a register is r15 or another, and where tests hold or fail.
use Rattle.std.proofs.Common.{◌≡◌, ◌≢◌, ℕ, ◌*◌, ◌%◌, true, false, refl, List, [], ◌∷◌}
use Rattle.std.specs.Prelude.{◌==◌}
use Rattle.std.specs.List.{insert}
use Rattle.std.proofs.lemmas.Bool.{ne_eqb, eq-eqb}
use Rattle.word_spec.specs.Words as words
use Rattle.word_spec.specs.Words.{add}
use Rattle.word_spec.specs.Memory.{Endian}
use Rattle.machine_spec.specs.Bil.{RRegisters, Bits, Mem, Var, Constant, Load, Unknown, Choose, Empty, Assign, JumpTo, Raise}
use Rattle.machine_spec.specs.Bil as bil
use Rattle.bil_ast.specs.Views.{statement, statements}
use Rattle.bil_ast.specs.declared.statements.Stmt.{Stmt}
use Rattle.arm_decode.specs.declared.transfers.TransferFields.{TransferFields}
use Rattle.arm_decode.specs.declared.swaps.SwapFields.{SwapFields}
use Rattle.arm_lift_alu.specs.Lifted.{number}
use Rattle.arm_lift_alu.specs.Operands.{own}
use Rattle.arm_lift_mem.specs.Accesses.{word}
use Rattle.arm_lift_mem.specs.Transfers as transfers
use Rattle.arm_lift_mem.specs.Swaps as swaps

-- a statement before a list
pub inserted : (list : List Stmt) (s : Stmt) → statements (insert list 0 s) ≡ statement s (statements list)
inserted [] s = refl
inserted (x ∷ list) s = refl

pub stored_pc : (d at : ℕ) → d ≡ 15 → transfers.source d at ≡ Choose (Unknown (Bits 1)) (number (add 32 at 12)) (number (add 32 at 8))
stored_pc d at h = rw h refl

pub stored_own : (d at : ℕ) → d ≢ 15 → transfers.source d at ≡ own d
stored_own d at h = rw (ne_eqb d 15 h) refl

pub jumps : (o : Endian) (d a : ℕ) → d ≡ 15 → a % 4 ≡ 0 →
    transfers.literal_list (d == 15) (a % 4 == 0) o d a ≡ JumpTo (Load (Var Mem) (number (words.aligned a)) o 32) Empty
jumps o d a h k = rw (eq-eqb d 15 h, eq-eqb (a % 4) 0 k) refl

pub raises : (o : Endian) (d a : ℕ) → d ≡ 15 → a % 4 ≢ 0 → transfers.literal_list (d == 15) (a % 4 == 0) o d a ≡ Raise 5 Empty
raises o d a h k = rw (eq-eqb d 15 h, ne_eqb (a % 4) 0 k) refl

pub loads : (o : Endian) (d a : ℕ) → d ≢ 15 → a % 4 ≡ 0 →
    transfers.literal_list (d == 15) (a % 4 == 0) o d a ≡ Assign (bil.Register RRegisters d) (Load (Var Mem) (number (words.aligned a)) o 32) Empty
loads o d a h k = rw (ne_eqb d 15 h, eq-eqb (a % 4) 0 k) refl

pub turns : (o : Endian) (d a : ℕ) → d ≢ 15 → a % 4 ≢ 0 →
    transfers.literal_list (d == 15) (a % 4 == 0) o d a
    ≡ Assign (bil.Register RRegisters d) (word o (number (words.aligned a)) (Constant 64 (8 * (a % 4)))) Empty
turns o d a h k = rw (ne_eqb d 15 h, ne_eqb (a % 4) 0 k) refl

-- the kinds of accesses
pub as_store : (i : TransferFields) (o : Endian) (at : ℕ) → i.is_load ≡ false →
    transfers.accessed i.is_load (i.rd.number == 15) i o at ≡ transfers.accessed false (i.rd.number == 15) i o at
as_store i o at h = rw h refl

pub as_jump : (i : TransferFields) (o : Endian) (at : ℕ) → i.is_load ≡ true → i.rd.number ≡ 15 →
    transfers.accessed i.is_load (i.rd.number == 15) i o at ≡ transfers.accessed true true i o at
as_jump i o at h k = rw (h, eq-eqb i.rd.number 15 k) refl

pub as_load : (i : TransferFields) (o : Endian) (at : ℕ) → i.is_load ≡ true → i.rd.number ≢ 15 →
    transfers.accessed i.is_load (i.rd.number == 15) i o at ≡ transfers.accessed true false i o at
as_load i o at h k = rw (h, ne_eqb i.rd.number 15 k) refl

-- one register, or two
pub as_one : (i : SwapFields) (o : Endian) → i.rd.number ≡ i.rm.number →
    swaps.swap i o ≡ swaps.swap_by true i.is_byte o i.rn.number i.rd.number i.rm.number
as_one i o h = rw (eq-eqb i.rd.number i.rm.number h) refl

pub as_two : (i : SwapFields) (o : Endian) → i.rd.number ≢ i.rm.number →
    swaps.swap i o ≡ swaps.swap_by false i.is_byte o i.rn.number i.rd.number i.rm.number
as_two i o h = rw (ne_eqb i.rd.number i.rm.number h) refl
