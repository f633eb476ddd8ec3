-- Worked texts with blocks, by computation alone.
use Rattle.std.proofs.Common.{◌≡◌, ℕ, false, refl, List, [], ◌∷◌, ◌++◌, Option, Some, None}
use Rattle.std.specs.Prelude.{◌==◌, ◌-◌, codes, drop, take, if◌then◌else◌}
use Rattle.std.specs.Fmt.{digits}
use Rattle.word_spec.specs.Memory.{Little}
use Rattle.word_spec.specs.Profiles.{V4}
use Rattle.machine_spec.specs.Endings.{EnsureFails}
use Rattle.machine_spec.specs.StateText.{Layout, rv_layout, arm_layout, StateLineFault, StateRegisterFault, StateByteFault, StateChoiceFault, StateEndFault}
use Rattle.frame_spec.specs.Frames.{OfStep, GivesFails}
use Rattle.frame_texts_spec.specs.FrameTexts.{FramedFails, no_checks, head_line, OfPart, HeadFault}
use Rattle.frame_texts_spec.specs.CallTexts.{EntryFrame, ContractFrame, Plain, UnprovedBy, UnprovedTurns, CallText, Changes, CallChecks, call_text_lines, OfFramed, BlockFault, CallTold, CallIs, CallRefused, call_told}

-- x10 may change at one contract, and two registers and two flags at another
abbrev changes : ℕ → Option Changes
changes a =
    if a == 0x10010 then Some (record { registers = 10 ∷ []; flags = [] }) else
    if a == 0x1000c then Some (record { registers = 0 ∷ 1 ∷ []; flags = 3 ∷ 0 ∷ [] }) else None

abbrev checks : CallChecks
checks = record { frames = λ f. no_checks; changes = changes }

abbrev zeros : List ℕ
zeros = 0 ∷ 0 ∷ 0 ∷ 0 ∷ 0 ∷ 0 ∷ 0 ∷ 0 ∷ 0 ∷ 0 ∷ 0 ∷ 0 ∷ 0 ∷ 0 ∷ 0 ∷ []

-- unproved entry ensure 5 at 0x0001000c step 4, with one block
abbrev sample : CallText
sample = record {
  named = UnprovedBy EntryFrame (OfStep (EnsureFails 5)) 0x1000c 4;
  start = record { regs = zeros ++ (0 ∷ zeros); flags = 0; bytes = []; choices = [] };
  head = None;
  calls = record { step = 3; at = 0x10010; regs = 0 ∷ []; flags = 0; bytes = [] } ∷ [];
}

abbrev texts : List (List ℕ)
texts = call_text_lines (rv_layout false) changes sample

-- with lines in the place of those from a number to another
abbrev with_lines : ℕ → ℕ → List (List ℕ) → List (List ℕ) → List (List ℕ)
with_lines first last ls all = take (first - 1) all ++ (ls ++ drop last all)

abbrev told : List (List ℕ) → CallTold
told = call_told (rv_layout false) checks

pub first_line : take 2 texts ≡ codes "unproved entry ensure 5 at 0x0001000c step 4" ∷ codes "state rv32im" ∷ []
unfolding digits
first_line = refl

pub last_lines : drop 32 texts ≡ codes "x31 0x00000000" ∷ codes "call 3 0x00010010" ∷ codes "x10 0x00000000" ∷ codes "end" ∷ []
unfolding digits
last_lines = refl

pub whole : told texts ≡ CallIs sample
unfolding digits
whole = refl

-- the values of the block are free
pub other_value : told (with_lines 35 35 (codes "x10 0xffffffff" ∷ []) texts)
    ≡ CallIs (record sample { calls = record { step = 3; at = 0x10010; regs = 0xffffffff ∷ []; flags = 0; bytes = [] } ∷ [] })
unfolding digits
other_value = refl

-- the first line: the frames of contracts, and each lawful ending before each body
pub of_contract : told (with_lines 1 1 (codes "unproved 0x00010010 gives 3 at 0x00010014 step 1" ∷ []) texts)
    ≡ CallIs (record sample { named = UnprovedBy (ContractFrame 0x10010) (GivesFails 3) 0x10014 1 })
unfolding digits
of_contract = refl

pub of_turns : told (with_lines 1 1 (codes "unproved entry unroll 4096 at 0x0001000c step 4" ∷ []) texts)
    ≡ CallIs (record sample { named = UnprovedTurns EntryFrame 4096 0x1000c 4 })
unfolding digits
of_turns = refl

pub of_tables : told (with_lines 1 1 (codes "fails ensure 5 at 0x0001000c step 4" ∷ []) texts)
    ≡ CallIs (record sample { named = Plain (FramedFails (OfStep (EnsureFails 5)) 0x1000c 4) })
unfolding digits
of_tables = refl

pub no_such_frame : told (with_lines 1 1 (codes "unproved 0x00010014 gives 3 at 0x00010014 step 1" ∷ []) texts) ≡ CallRefused 1 (OfFramed (OfPart StateLineFault))
unfolding digits
no_such_frame = refl

pub many_turns : told (with_lines 1 1 (codes "unproved entry unroll 4097 at 0x0001000c step 4" ∷ []) texts) ≡ CallRefused 1 (OfFramed (OfPart StateLineFault))
unfolding digits
many_turns = refl

-- the line that begins a block
pub no_contract : told (with_lines 34 34 (codes "call 3 0x00010014" ∷ []) texts) ≡ CallRefused 34 BlockFault
unfolding digits
no_contract = refl

pub late_step : told (with_lines 34 34 (codes "call 16777216 0x00010010" ∷ []) texts) ≡ CallRefused 34 (OfFramed (OfPart StateLineFault))
unfolding digits
late_step = refl

pub no_block_line : told (with_lines 34 34 [] texts) ≡ CallRefused 34 (OfFramed (OfPart StateRegisterFault))
unfolding digits
no_block_line = refl

pub block_twice : told (with_lines 36 35 (codes "call 3 0x00010010" ∷ codes "x10 0x00000000" ∷ []) texts) ≡ CallRefused 36 BlockFault
unfolding digits
block_twice = refl

pub block_in_registers : told (with_lines 11 10 (codes "call 3 0x00010010" ∷ codes "x10 0x00000000" ∷ []) texts)
    ≡ CallRefused 11 (OfFramed (OfPart StateRegisterFault))
unfolding digits
block_in_registers = refl

-- the lines of a block
pub other_register : told (with_lines 35 35 (codes "x11 0x00000005" ∷ []) texts) ≡ CallRefused 35 BlockFault
unfolding digits
other_register = refl

pub register_twice : told (with_lines 36 35 (codes "x10 0x00000000" ∷ []) texts) ≡ CallRefused 36 BlockFault
unfolding digits
register_twice = refl

pub early_byte : told (with_lines 35 34 (codes "byte 0x00020000 0x01" ∷ []) texts) ≡ CallRefused 35 BlockFault
unfolding digits
early_byte = refl

pub zero_byte : told (with_lines 36 35 (codes "byte 0x00020000 0x00" ∷ []) texts) ≡ CallRefused 36 BlockFault
unfolding digits
zero_byte = refl

pub falling_bytes : told (with_lines 36 35 (codes "byte 0x00020001 0x01" ∷ codes "byte 0x00020000 0x01" ∷ []) texts) ≡ CallRefused 37 BlockFault
unfolding digits
falling_bytes = refl

pub choice_in_block : told (with_lines 36 35 (codes "choice 0 1" ∷ []) texts) ≡ CallRefused 36 (OfFramed (OfPart StateChoiceFault))
unfolding digits
choice_in_block = refl

pub head_in_block : told (with_lines 36 35 (head_line 0x10000 ∷ []) texts) ≡ CallRefused 36 (OfFramed HeadFault)
unfolding digits
head_in_block = refl

pub early_end : told (with_lines 35 35 [] texts) ≡ CallRefused 35 BlockFault
unfolding digits
early_end = refl

pub cut_short : told (take 34 texts) ≡ CallRefused 35 (OfFramed (OfPart StateEndFault))
unfolding digits
cut_short = refl

pub without_end : told (take 35 texts) ≡ CallRefused 36 (OfFramed (OfPart StateEndFault))
unfolding digits
without_end = refl

-- lines after the end
pub register_after : told (texts ++ codes "x10 0x00000000" ∷ []) ≡ CallRefused 37 (OfFramed (OfPart StateRegisterFault))
unfolding digits
register_after = refl

pub byte_after : told (texts ++ codes "byte 0x00020000 0x01" ∷ []) ≡ CallRefused 37 (OfFramed (OfPart StateByteFault))
unfolding digits
byte_after = refl

pub block_after : told (texts ++ codes "call 4 0x00010010" ∷ []) ≡ CallRefused 37 (OfFramed (OfPart StateEndFault))
unfolding digits
block_after = refl

pub end_twice : told (texts ++ codes "end" ∷ []) ≡ CallRefused 37 (OfFramed (OfPart StateEndFault))
unfolding digits
end_twice = refl

-- on ARM, registers and flags stand in the order of the layout, after choices and before bytes: 1 + 1 + 19 + 1 lines, and a block of 1 + 2 + 2 + 1
abbrev arm_layout_of_samples : Layout
arm_layout_of_samples = arm_layout Little V4

abbrev arm_sample : CallText
arm_sample = record {
  named = UnprovedBy EntryFrame (OfStep (EnsureFails 4)) 0x10008 3;
  start = record { regs = zeros; flags = 0; bytes = []; choices = (0, 1) ∷ [] };
  head = None;
  calls = record { step = 2; at = 0x1000c; regs = 1 ∷ 2 ∷ []; flags = 8; bytes = (0x20000, 1) ∷ [] } ∷ [];
}

abbrev arm_texts : List (List ℕ)
arm_texts = call_text_lines arm_layout_of_samples changes arm_sample

abbrev arm_told : List (List ℕ) → CallTold
arm_told = call_told arm_layout_of_samples checks

pub arm_lines : drop 21 arm_texts ≡ codes "choice 0 1" ∷ codes "call 2 0x0001000c" ∷ codes "r0 0x00000001" ∷ codes "r1 0x00000002" ∷ codes "N 1" ∷ codes "V 0"
    ∷ codes "byte 0x00020000 0x01" ∷ codes "end" ∷ []
unfolding digits
arm_lines = refl

pub arm_whole : arm_told arm_texts ≡ CallIs arm_sample
unfolding digits
arm_whole = refl

pub flags_exchanged : arm_told (with_lines 26 27 (codes "V 0" ∷ codes "N 1" ∷ []) arm_texts) ≡ CallRefused 26 BlockFault
unfolding digits
flags_exchanged = refl

pub one_flag_more : arm_told (with_lines 27 26 (codes "Z 1" ∷ []) arm_texts) ≡ CallRefused 27 BlockFault
unfolding digits
one_flag_more = refl

pub no_digit : arm_told (with_lines 26 26 (codes "N 2" ∷ []) arm_texts) ≡ CallRefused 26 (OfFramed (OfPart StateLineFault))
unfolding digits
no_digit = refl
