-- What is told by the lines of blocks, read one after the other.
use Rattle.std.specs.Prelude.{ℕ, ◌≡◌, ◌+◌, ◌<◌, nat_le, List, [], ◌++◌, Option, Some, None, get_or, length, take, drop}
use Rattle.word_spec.specs.Texts.{split_lines}
use Rattle.machine_spec.specs.StateText.{Layout, RegisterLine}
use Rattle.frame_spec.specs.FrameReports.{WrittenCall}
use Rattle.frame_texts_spec.specs.CallTexts as texts
use Rattle.frame_texts_spec.specs.CallTexts.{AfterEnd, BlocksAre, BlocksRefused, BlocksTold, Changes, InBlocks, Stage, begins_by, blocks_told, flags_by, with_byte, with_value}
use Rattle.frame_text.specs.Readings.{frame_fault_of}
use Rattle.call_text.specs.declared.fault.CallFault.{CallFault}
use Rattle.call_text.specs.declared.fault.CallFault.TheVariants.{OfFramed, Block}
use Rattle.call_text.specs.declared.blocks.Act.{Act}
use Rattle.call_text.specs.declared.blocks.Act.TheVariants.{Value, Byte, Closes}
use Rattle.call_text.specs.declared.blocks.Next.{Next}
use Rattle.call_text.specs.declared.blocks.BlocksFault.{BlocksFault}
use Rattle.call_text.specs.declared.blocks.BlocksFault.TheVariants.{Refused, Memory}

-- the fault
abbrev pub call_fault_of : CallFault → texts.CallTextFault
call_fault_of (OfFramed f) = texts.OfFramed (frame_fault_of f)
call_fault_of Block = texts.BlockFault

-- what is told by the line that ends a block, which begins one of this step and address or ends all
abbrev pub closed_by : Layout → (ℕ → Option Changes) → (line step : ℕ) → Option (ℕ × ℕ) → (Stage → BlocksTold) → BlocksTold
closed_by layout changes n step None later = later AfterEnd
closed_by layout changes n step (Some call) later = begins_by layout n call.0 call.1 (nat_le step call.0) (changes call.1) later

-- what is told by what a line does
abbrev pub acted : Layout → (ℕ → Option Changes) → (line step : ℕ) → (due : List ℕ) → (byte : ℕ) → Act → (Stage → BlocksTold) → BlocksTold
acted layout changes n step due byte (Value v) later = with_value v (later (InBlocks step (drop 1 due) byte))
acted layout changes n step due byte (Byte a v) later = with_byte a v (later (InBlocks step due (a + 1)))
acted layout changes n step due byte (Closes begins) later = closed_by layout changes n step begins later

-- a line gives the value of the first place that is due, or none is due where it ends a block
abbrev pub IsDue : Option texts.BlockLine → (due : List ℕ) → Act → Type 0
IsDue said due (Value v) = (0 < length due) × (said ≡ Some (texts.OfStart (RegisterLine (get_or due 0 0) v)))
IsDue said due (Byte a v) = Unit {0}
IsDue said due (Closes begins) = length due ≡ 0

-- values and bytes before what is told
abbrev pub prepended : (values : List ℕ) → (bytes : List (ℕ × ℕ)) → BlocksTold → BlocksTold
prepended values bytes (BlocksAre vs bs calls) = BlocksAre (values ++ vs) (bytes ++ bs) calls
prepended values bytes (BlocksRefused n f) = BlocksRefused n f

-- what is told from the line on that ends a block, where the next block's step is at least one number
abbrev pub told_from : Layout → (ℕ → Option Changes) → (step line : ℕ) → Option (ℕ × ℕ) → List (List ℕ) → BlocksTold
told_from layout changes step n begins rest = closed_by layout changes n step begins (λ next. blocks_told layout changes next (n + 1) rest)

abbrev pub next_told : Layout → (ℕ → Option Changes) → (step : ℕ) → Next → BlocksTold
next_told layout changes step next = told_from layout changes step next.line next.begins (split_lines next.rest.now)

-- what a contract step is given by the values and the bytes of its block
abbrev pub made_call : (step at : ℕ) → Changes → (values : List ℕ) → (bytes : List (ℕ × ℕ)) → WrittenCall
made_call step at x values bytes = record {
  step = step;
  at = at;
  regs = take (length x.registers) values;
  flags = flags_by x.flags (drop (length x.registers) values);
  bytes = bytes;
}

-- complete blocks before what is told, of which the values and bytes of the block in which its lines begin are left out
abbrev pub whole_told : List WrittenCall → BlocksTold → BlocksTold
whole_told calls (BlocksAre values bytes later) = BlocksAre [] [] (calls ++ later)
whole_told calls (BlocksRefused n f) = BlocksRefused n f

-- what is told where blocks are refused; want of memory says nothing of it
abbrev pub IsBlocksRefused : BlocksTold → BlocksFault → Type 0
IsBlocksRefused told (Refused line kind) = told ≡ BlocksRefused line (call_fault_of kind)
IsBlocksRefused told Memory = Unit {0}
