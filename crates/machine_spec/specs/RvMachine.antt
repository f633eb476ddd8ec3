-- The machine of RV32IM, with the compressed instructions (RV32IMC) or without them.
use Rattle.std.specs.Prelude.{Bool, false, ◌&&◌, nat_le}
use Rattle.word_spec.specs.Memory.{Little}
use Rattle.machine_spec.specs.Machine.{Machine}
use Rattle.machine_spec.specs.RvShort.{rvc_row}

-- the machine: x1 is the link register, x1 to x31 are its registers, and it has no flags
abbrev pub rv32 : (compressed : Bool) → Machine
rv32 compressed = record {
  endian = Little;
  link = 1;
  has_register = λ r. nat_le 1 r && nat_le r 31;
  has_flag = λ f. false;
  narrow = compressed;
  row = rvc_row compressed;
}
