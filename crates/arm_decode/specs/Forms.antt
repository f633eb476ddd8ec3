-- The fields of each class, as those of its word.
use Rattle.std.specs.Prelude.{ℕ, ◌≡◌, ◌*◌, true, false, Option, Some, None}
use Rattle.word_spec.specs.Words.{bits, sign_extend}
use Rattle.machine_spec.specs.Arm.{field_n, field_d, field_s, field_m, has_bit, is_pre, is_up, is_byte, bit_w, accumulates, is_load, opcode, sets_flags, is_linked}
use Rattle.arm_decode.specs.declared.register.Register.{Register}
use Rattle.arm_decode.specs.declared.data.ComputingFields.{ComputingFields}
use Rattle.arm_decode.specs.declared.multiplies.MultiplyFields.{MultiplyFields}
use Rattle.arm_decode.specs.declared.long_multiplies.MultiplyLongFields.{MultiplyLongFields}
use Rattle.arm_decode.specs.declared.swaps.SwapFields.{SwapFields}
use Rattle.arm_decode.specs.declared.transfers.TransferFields.{TransferFields}
use Rattle.arm_decode.specs.declared.halfwords.HalfwordFields.{HalfwordFields}
use Rattle.arm_decode.specs.declared.blocks.BlockFields.{BlockFields}
use Rattle.arm_decode.specs.declared.branches.BranchFields.{BranchFields}
use Rattle.arm_decode.specs.declared.counts.CountFields.{CountFields}
use Rattle.arm_decode.specs.Parts.{opcode_number, HasOperand, HasAddressing, HasOffset, HasHalfwordOffset, HasHalfwordOp}

-- data processing
pub record IsComputing (w : ℕ) (x : ComputingFields) : Type 0 where
  pub opcode : opcode_number x.opcode ≡ opcode w
  pub sets_flags : x.sets_flags ≡ sets_flags w
  pub rn : x.rn.number ≡ field_n w
  pub rd : x.rd.number ≡ field_d w
  pub operand : HasOperand w x.operand

-- MLA has an addend
abbrev pub HasAddend : ℕ → Option Register → Type 0
HasAddend w None = accumulates w ≡ false
HasAddend w (Some r) = (accumulates w ≡ true) × (r.number ≡ field_d w)

-- MUL and MLA
pub record IsMultiply (w : ℕ) (x : MultiplyFields) : Type 0 where
  pub rd : x.rd.number ≡ field_n w
  pub rm : x.rm.number ≡ field_m w
  pub rs : x.rs.number ≡ field_s w
  pub addend : HasAddend w x.addend
  pub sets_flags : x.sets_flags ≡ sets_flags w

-- UMULL, UMLAL, SMULL and SMLAL
pub record IsMultiplyLong (w : ℕ) (x : MultiplyLongFields) : Type 0 where
  pub is_signed : x.is_signed ≡ has_bit 22 w
  pub accumulates : x.accumulates ≡ accumulates w
  pub sets_flags : x.sets_flags ≡ sets_flags w
  pub upper : x.upper.number ≡ field_n w
  pub lower : x.lower.number ≡ field_d w
  pub rm : x.rm.number ≡ field_m w
  pub rs : x.rs.number ≡ field_s w

-- SWP and SWPB
pub record IsSwap (w : ℕ) (x : SwapFields) : Type 0 where
  pub is_byte : x.is_byte ≡ is_byte w
  pub rn : x.rn.number ≡ field_n w
  pub rd : x.rd.number ≡ field_d w
  pub rm : x.rm.number ≡ field_m w

-- LDR, LDRB, STR and STRB
pub record IsTransfer (w : ℕ) (x : TransferFields) : Type 0 where
  pub is_load : x.is_load ≡ is_load w
  pub is_byte : x.is_byte ≡ is_byte w
  pub addressing : HasAddressing w x.addressing
  pub rn : x.rn.number ≡ field_n w
  pub rd : x.rd.number ≡ field_d w
  pub offset : HasOffset w x.offset

-- LDRH, STRH, LDRSB and LDRSH
pub record IsHalfword (w : ℕ) (x : HalfwordFields) : Type 0 where
  pub op : HasHalfwordOp w x.op
  pub addressing : HasAddressing w x.addressing
  pub rn : x.rn.number ≡ field_n w
  pub rd : x.rd.number ≡ field_d w
  pub offset : HasHalfwordOffset w x.offset

-- LDM and STM
pub record IsBlock (w : ℕ) (x : BlockFields) : Type 0 where
  pub is_load : x.is_load ≡ is_load w
  pub is_up : x.is_up ≡ is_up w
  pub is_before : x.is_before ≡ is_pre w
  pub writes_back : x.writes_back ≡ bit_w w
  pub rn : x.rn.number ≡ field_n w
  pub list : x.list.bits ≡ bits 15 0 w

-- B and BL
pub record IsBranch (w : ℕ) (x : BranchFields) : Type 0 where
  pub is_linked : x.is_linked ≡ is_linked w
  pub offset : x.offset ≡ sign_extend 26 32 (4 * bits 23 0 w)

-- CLZ
pub record IsCount (w : ℕ) (x : CountFields) : Type 0 where
  pub rd : x.rd.number ≡ field_d w
  pub rm : x.rm.number ≡ field_m w
