-- The low bits of an address that tell whether a row can stand there: the lowest one where some rows have 2 bytes, and else the lowest two.
use mir.Val.{bool_byte}
use Rattle.std.proofs.Common.{◌≡◌, ◌≤◌, ℕ, ◌%◌, Bool, true, false, not, arith}
use Rattle.word_spec.specs.Words.{bits}
use Rattle.machine_spec.specs.Machine.{unit}

pub low_bits : (narrow : Bool) (hi w : ℕ) → hi ≡ bool_byte (not narrow) → bits hi 0 w ≡ w % unit narrow
low_bits true hi w e = let zero : hi ≡ 0 = e in rw zero (omega arith)
low_bits false hi w e = let one : hi ≡ 1 = e in rw one (omega arith)

pub few_low_bits : (narrow : Bool) (hi : ℕ) → hi ≡ bool_byte (not narrow) → hi ≤ 1
few_low_bits true hi e = let zero : hi ≡ 0 = e in omega (arith, zero)
few_low_bits false hi e = let one : hi ≡ 1 = e in omega (arith, one)
