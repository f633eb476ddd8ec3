-- The text of what a report over frames shows where its run makes contract steps: after the start, and after the head state of a segment from a head, stands a
-- block for each contract step, with the step, its contract's address, the values that its contract may change, and the bytes that are not 0 among those that it
-- may write. What is printed, what a text says, and why one is refused. What stands before the blocks is judged as a text of its own, in which the line of the
-- first block is in the place of the end: it closes that text as an end does.
use Rattle.std.specs.Prelude.{ℕ, ◌≡◌, ◌≤◌, ◌<◌, ◌+◌, ◌-◌, ◌*◌, ◌^◌, ◌==◌, ◌&&◌, nat_lt, nat_le, Bool, true, false, if◌then◌else◌, List, [], ◌∷◌, ◌++◌, Option, Some, None, is_some, length, map, take, drop, codes, All, AllPairs}
use Rattle.std.specs.List.{flat_map}
use Rattle.std.specs.Option.{option_map}
use Rattle.std.specs.Str.{bytes_eq}
use Rattle.word_spec.specs.Words.{bit_at}
use Rattle.word_spec.specs.State.{Written}
use Rattle.word_spec.specs.Texts.{word_text, number_text, lines, joined, words_in, split_lines, decimal_word, hex_word, at_most}
use Rattle.machine_spec.specs.Endings.{place_words}
use Rattle.machine_spec.specs.StateText.{Layout, IsWritten, AreRising, last_step, StateLine, NamedLine, MachineLine, RegisterLine, ByteLine, ChoiceLine, EndLine, value_names, line_of, both, after_unknown, StateLineFault, StateRegisterFault, StateByteFault, StateChoiceFault, StateEndFault}
use Rattle.frame_spec.specs.Frames.{FrameEvent}
use Rattle.frame_spec.specs.FrameReports.{WrittenHead, WrittenCall, Shown}
use Rattle.frame_texts_spec.specs.FrameTexts.{FramedEnding, FramedFails, FramedTurns, NotInductiveBy, framed, ending_words, frame_event_words, line_texts, lines_of_parts, Checks, IsFrameEvent, IsFramedEnding, IsHeadPart, first_of, any_word, any_line, ending_after, named_in, ending_of, Mark, mark_of, part_of, FrameFault, OfPart, HeadFault, FramedTold, FramedIs, FramedRefused, told_behind}

-- the frame whose run a report shows: that of the entry, or that of the contract of an address
pub data FrameName : Type 0 where
  EntryFrame : FrameName
  ContractFrame : ℕ → FrameName

-- The ending that a report names: one of a run without contract steps from the entry; or an event, or the (k + 1)th backward transfer, for which a frame is not
-- proved.
pub data CallEnding : Type 0 where
  Plain : FramedEnding → CallEnding
  UnprovedBy : FrameName → FrameEvent → (at step : ℕ) → CallEnding
  UnprovedTurns : FrameName → (k at step : ℕ) → CallEnding

-- the frame whose run it is
abbrev pub frame_name : CallEnding → FrameName
frame_name (Plain n) = EntryFrame
frame_name (UnprovedBy f e at step) = f
frame_name (UnprovedTurns f k at step) = f

-- a named ending with its start, with the head state where the segment begins in one, and with what contract steps are given
pub record CallText : Type 0 where
  pub named : CallEnding
  pub start : Written
  pub head : Option WrittenHead
  pub calls : List WrittenCall

-- what the report shows
abbrev pub shown_of : CallText → Shown
shown_of t = record { start = t.start; head = t.head; calls = t.calls }

-- what a contract may change: registers in the machine's order, and flags, the one with the highest number first
pub record Changes : Type 0 where
  pub registers : List ℕ
  pub flags : List ℕ

-- the places of their values, as registers and flags are named in a layout
abbrev pub places : Layout → Changes → List ℕ
places layout x = map (λ r. r - layout.first) x.registers ++ map (λ f. length (value_names layout) - 1 - f) x.flags

-- the values that a contract step is given, at these places
abbrev pub values_of : Changes → WrittenCall → List ℕ
values_of x c = c.regs ++ map (λ f. bit_at f c.flags) x.flags

-- the set of flags, by the bits of some of them
abbrev pub flags_by : (flags bits : List ℕ) → ℕ
flags_by [] bits = 0
flags_by (f ∷ flags) [] = 0
flags_by (f ∷ flags) (b ∷ bits) = b * 2 ^ f + flags_by flags bits

-- a frame by its name
abbrev pub name_word : FrameName → List ℕ
name_word EntryFrame = codes "entry"
name_word (ContractFrame a) = word_text a

-- the words of a named ending
abbrev pub call_ending_words : CallEnding → List (List ℕ)
call_ending_words (Plain n) = ending_words n
call_ending_words (UnprovedBy f e at step) = codes "unproved" ∷ name_word f ∷ frame_event_words e ++ place_words at step
call_ending_words (UnprovedTurns f k at step) = codes "unproved" ∷ name_word f ∷ codes "unroll" ∷ number_text k ∷ place_words at step

-- the line that begins a block
abbrev pub call_line : (step at : ℕ) → List ℕ
call_line step at = joined (codes "call" ∷ number_text step ∷ word_text at ∷ [])

-- the lines of values at places
abbrev pub value_lines : (places values : List ℕ) → List StateLine
value_lines [] values = []
value_lines (i ∷ places) [] = []
value_lines (i ∷ places) (v ∷ values) = RegisterLine i v ∷ value_lines places values

-- what a contract may change, nothing where there is no contract
abbrev pub changes_or_none : Option Changes → Changes
changes_or_none None = record { registers = []; flags = [] }
changes_or_none (Some x) = x

-- the lines of a block
abbrev pub block_lines : Layout → Changes → WrittenCall → List (List ℕ)
block_lines layout x c =
    call_line c.step c.at ∷ line_texts layout (value_lines (places layout x) (values_of x c) ++ map (λ b. ByteLine b.0 b.1) c.bytes)

-- all blocks, where a function tells what the contract of an address may change
abbrev pub blocks : Layout → (ℕ → Option Changes) → List WrittenCall → List (List ℕ)
blocks layout changes calls = flat_map (λ c. block_lines layout (changes_or_none (changes c.at)) c) calls

-- the lines without the last
abbrev pub but_last : List (List ℕ) → List (List ℕ)
but_last ls = take (length ls - 1) ls

-- The lines of the text: the blocks stand before the end.
abbrev pub call_text_lines : Layout → (ℕ → Option Changes) → CallText → List (List ℕ)
call_text_lines layout changes t =
    joined (call_ending_words t.named) ∷ but_last (lines_of_parts layout t.start t.head) ++ (blocks layout changes t.calls ++ codes "end" ∷ [])

-- the text
unfoldable pub call_printed : Layout → (ℕ → Option Changes) → CallText → List ℕ
call_printed layout changes t = lines (call_text_lines layout changes t)

-- What a reader is told besides a text: for a run of each frame what is told of its start and its head state, and what the contract of an address may change,
-- where there is one.
pub record CallChecks : Type 0 where
  pub frames : FrameName → Checks
  pub changes : ℕ → Option Changes

-- the frame is the entry's, or there is a contract at its address
abbrev pub IsFrameName : CallChecks → FrameName → Type 0
IsFrameName c EntryFrame = Unit {0}
IsFrameName c (ContractFrame a) = (a < 2 ^ 32) × (is_some (c.changes a) ≡ true)

-- an ending that can be written
abbrev pub IsCallEnding : CallChecks → CallEnding → Type 0
IsCallEnding c (Plain n) = IsFramedEnding n
IsCallEnding c (UnprovedBy f e at step) = IsFrameName c f × IsFrameEvent e × (at < 2 ^ 32) × (step ≤ last_step)
IsCallEnding c (UnprovedTurns f k at step) = IsFrameName c f × (k ≤ 4096) × (at < 2 ^ 32) × (step ≤ last_step)

-- the layout has the registers and the flags, and no flag stands twice
pub record HasChanges (layout : Layout) (x : Changes) : Type 0 where
  pub registers : All (λ r. (layout.first ≤ r) × (r - layout.first < length layout.registers)) x.registers
  pub flags : All (λ f. f < length layout.flags) x.flags
  pub flags_fall : AllPairs (λ f g. g < f) x.flags

-- A block that can be written: that of a contract, with a word for each register that it may change, no flag but those that it may change, and bytes from 1 on in
-- rising order.
pub record IsBlock (layout : Layout) (c : CallChecks) (w : WrittenCall) : Type 0 where
  pub step : w.step ≤ last_step
  pub at : w.at < 2 ^ 32
  pub contract : Changes
  pub is_contract : c.changes w.at ≡ Some contract
  pub has : HasChanges layout contract
  pub count : length w.regs ≡ length contract.registers
  pub words : All (λ v. v < 2 ^ 32) w.regs
  pub flags : flags_by contract.flags (map (λ f. bit_at f w.flags) contract.flags) ≡ w.flags
  pub bytes : All (λ b. (b.0 < 2 ^ 32) × (1 ≤ b.1) × (b.1 ≤ 255)) w.bytes
  pub bytes_rise : AreRising w.bytes

-- a text that can be written
pub record IsCallText (layout : Layout) (c : CallChecks) (t : CallText) : Type 0 where
  pub named : IsCallEnding c t.named
  pub start : IsWritten layout (c.frames (frame_name t.named)).known t.start
  pub head : IsHeadPart layout (c.frames (frame_name t.named)) t.start t.head
  pub calls : All (IsBlock layout c) t.calls
  pub calls_rise : AllPairs (λ x y. x.step < y.step) t.calls

-- the frame that a word names: the contract of an address, where there is one
abbrev pub contract_name : (ℕ → Option Changes) → Option ℕ → Option FrameName
contract_name changes None = None
contract_name changes (Some a) = if is_some (changes a) then Some (ContractFrame a) else None

abbrev pub frame_in : (ℕ → Option Changes) → List ℕ → Option FrameName
frame_in changes w = if bytes_eq w (codes "entry") then Some EntryFrame else contract_name changes (hex_word 8 w)

-- an ending of a run, for which a frame is not proved
abbrev pub unproved : FrameName → FramedEnding → CallEnding
unproved f (FramedFails e at step) = UnprovedBy f e at step
unproved f (FramedTurns k at step) = UnprovedTurns f k at step
unproved f (NotInductiveBy e at step) = UnprovedBy f e at step

-- what stands after the frame: an event, or a number of backward transfers, after one word
abbrev pub after_frame : List (List ℕ) → Option FramedEnding
after_frame ws = first_of (ending_after FramedFails any_word any_line ws) (option_map framed (named_in (after_unknown ws)))

abbrev pub unproved_by : Option FrameName → Option FramedEnding → Option CallEnding
unproved_by (Some f) (Some n) = Some (unproved f n)
unproved_by (Some f) None = None
unproved_by None n = None

-- an ending that only notes with contracts have
abbrev pub unproved_ending : (ℕ → Option Changes) → List (List ℕ) → Option CallEnding
unproved_ending changes (w ∷ f ∷ ws) = if bytes_eq w (codes "unproved") then unproved_by (frame_in changes f) (after_frame ws) else None
unproved_ending changes other = None

-- the ending that a first line says
abbrev pub call_ending_of : Layout → (ℕ → Option Changes) → List ℕ → Option CallEnding
call_ending_of layout changes text = first_of (option_map Plain (ending_of layout text)) (unproved_ending changes (words_in text))

-- the step and the address of a line that begins a block
abbrev pub call_in : List (List ℕ) → Option (ℕ × ℕ)
call_in (w ∷ step ∷ a ∷ []) = if bytes_eq w (codes "call") then both (at_most last_step (decimal_word step)) (hex_word 8 a) else None
call_in other = None

abbrev pub call_of : List ℕ → Option (ℕ × ℕ)
call_of text = call_in (words_in text)

-- the lines before the first block, and all lines from it on
pub record Body : Type 0 where
  pub lines : List (List ℕ)
  pub blocks : List (List ℕ)

-- a line before a body
abbrev pub body_from : List ℕ → Option (ℕ × ℕ) → List (List ℕ) → Body → Body
body_from text None rest b = record { lines = text ∷ b.lines; blocks = b.blocks }
body_from text (Some call) rest b = record { lines = []; blocks = text ∷ rest }

abbrev pub body_of : List (List ℕ) → Body
body_of [] = record { lines = []; blocks = [] }
body_of (text ∷ rest) = body_from text (call_of text) rest (body_of rest)

-- Why a line is refused: as one before the blocks is; or it begins a block where no contract is or at no greater step than the block before, or in a block it is
-- not the line that is due.
pub data CallTextFault : Type 0 where
  OfFramed : FrameFault → CallTextFault
  BlockFault : CallTextFault

-- what a text says: a state, or nothing, refused at a line
pub data CallTold : Type 0 where
  CallIs : CallText → CallTold
  CallRefused : ℕ → CallTextFault → CallTold

-- A line in the blocks: one that begins a block, one of a start, or one of the beginning of a head part.
pub data BlockLine : Type 0 where
  BeginsBlock : (step at : ℕ) → BlockLine
  OfStart : StateLine → BlockLine
  OfHead : Mark → BlockLine

abbrev pub block_line_by : Option (ℕ × ℕ) → Option StateLine → Option Mark → Option BlockLine
block_line_by (Some call) l m = Some (BeginsBlock call.0 call.1)
block_line_by None (Some l) m = Some (OfStart l)
block_line_by None None m = option_map OfHead m

abbrev pub block_line_of : Layout → List ℕ → Option BlockLine
block_line_of layout text = block_line_by (call_of text) (line_of layout text) (mark_of layout text)

-- Where a line stands: in the blocks, where the next block's step is at least one number, the values at some places are due, and then bytes from one address on;
-- or after the end.
pub data Stage : Type 0 where
  InBlocks : (step : ℕ) → (due : List ℕ) → (byte : ℕ) → Stage
  AfterEnd : Stage

-- What lines from a stage on say: the values and the bytes of the block in which they begin, and all later blocks. Or one is refused.
pub data BlocksTold : Type 0 where
  BlocksAre : (values : List ℕ) → (bytes : List (ℕ × ℕ)) → List WrittenCall → BlocksTold
  BlocksRefused : ℕ → CallTextFault → BlocksTold

-- with one more value, one more byte, or the line before that begins the block
abbrev pub with_value : ℕ → BlocksTold → BlocksTold
with_value v (BlocksAre values bytes calls) = BlocksAre (v ∷ values) bytes calls
with_value v (BlocksRefused n f) = BlocksRefused n f

abbrev pub with_byte : (at value : ℕ) → BlocksTold → BlocksTold
with_byte a v (BlocksAre values bytes calls) = BlocksAre values ((a, v) ∷ bytes) calls
with_byte a v (BlocksRefused n f) = BlocksRefused n f

abbrev pub with_call : (step at : ℕ) → Changes → BlocksTold → BlocksTold
with_call step at x (BlocksAre values bytes calls) =
    BlocksAre [] []
    (record {
      step = step;
      at = at;
      regs = take (length x.registers) values;
      flags = flags_by x.flags (drop (length x.registers) values);
      bytes = bytes;
    } ∷ calls)
with_call step at x (BlocksRefused n f) = BlocksRefused n f

-- the value at this place is due; no value is due
abbrev pub is_due : ℕ → List ℕ → Bool
is_due i [] = false
is_due i (j ∷ due) = i == j

abbrev pub none_due : List ℕ → Bool
none_due [] = true
none_due (j ∷ due) = false

-- a line that begins a block, by the contract of its address, where it may begin one
abbrev pub begins_by : Layout → (line step at : ℕ) → Bool → Option Changes → (Stage → BlocksTold) → BlocksTold
begins_by layout n step at true (Some x) later = with_call step at x (later (InBlocks (step + 1) (places layout x) 0))
begins_by layout n step at true None later = BlocksRefused n BlockFault
begins_by layout n step at false o later = BlocksRefused n BlockFault

-- what is said by a line in the blocks and by those after it
abbrev pub told_in_blocks : Layout → (ℕ → Option Changes) → (line step : ℕ) → (due : List ℕ) → (byte : ℕ) → Option BlockLine → (Stage → BlocksTold) →
    BlocksTold
told_in_blocks layout changes n step due byte None later = BlocksRefused n (OfFramed (OfPart StateLineFault))
told_in_blocks layout changes n step due byte (Some (BeginsBlock s a)) later = begins_by layout n s a (none_due due && nat_le step s) (changes a) later
told_in_blocks layout changes n step due byte (Some (OfHead m)) later = BlocksRefused n (OfFramed HeadFault)
told_in_blocks layout changes n step due byte (Some (OfStart (NamedLine e))) later = BlocksRefused n (OfFramed (OfPart StateLineFault))
told_in_blocks layout changes n step due byte (Some (OfStart MachineLine)) later = BlocksRefused n (OfFramed (OfPart StateLineFault))
told_in_blocks layout changes n step due byte (Some (OfStart (RegisterLine i v))) later =
    if is_due i due then with_value v (later (InBlocks step (drop 1 due) byte)) else BlocksRefused n BlockFault
told_in_blocks layout changes n step due byte (Some (OfStart (ByteLine a v))) later =
    if none_due due && nat_le byte a && nat_lt 0 v then with_byte a v (later (InBlocks step [] (a + 1))) else BlocksRefused n BlockFault
told_in_blocks layout changes n step due byte (Some (OfStart (ChoiceLine s k))) later = BlocksRefused n (OfFramed (OfPart StateChoiceFault))
told_in_blocks layout changes n step due byte (Some (OfStart EndLine)) later = if none_due due then later AfterEnd else BlocksRefused n BlockFault

-- why a line after the end is refused
abbrev pub fault_after : Option BlockLine → FrameFault
fault_after None = OfPart StateLineFault
fault_after (Some (BeginsBlock s a)) = OfPart StateEndFault
fault_after (Some (OfHead m)) = OfPart StateEndFault
fault_after (Some (OfStart (NamedLine e))) = OfPart StateLineFault
fault_after (Some (OfStart MachineLine)) = OfPart StateLineFault
fault_after (Some (OfStart (RegisterLine i v))) = OfPart StateRegisterFault
fault_after (Some (OfStart (ByteLine a v))) = OfPart StateByteFault
fault_after (Some (OfStart (ChoiceLine s k))) = OfPart StateChoiceFault
fault_after (Some (OfStart EndLine)) = OfPart StateEndFault

-- what is said by a line at a stage and by those after it
abbrev pub told_at : Layout → (ℕ → Option Changes) → (line : ℕ) → Stage → Option BlockLine → (Stage → BlocksTold) → BlocksTold
told_at layout changes n (InBlocks step due byte) l later = told_in_blocks layout changes n step due byte l later
told_at layout changes n AfterEnd l later = BlocksRefused n (OfFramed (fault_after l))

-- what lines say from a stage on, of which the first has a number; an end that lacks is refused at the line after the last
abbrev pub blocks_told : Layout → (ℕ → Option Changes) → Stage → (line : ℕ) → List (List ℕ) → BlocksTold
blocks_told layout changes (InBlocks step due byte) n [] = BlocksRefused n (OfFramed (OfPart StateEndFault))
blocks_told layout changes AfterEnd n [] = BlocksAre [] [] []
blocks_told layout changes stage n (text ∷ rest) =
    told_at layout changes n stage (block_line_of layout text) (λ next. blocks_told layout changes next (n + 1) rest)

-- what is said before the blocks and by them, after an ending
abbrev pub told_by_both : CallEnding → FramedTold → BlocksTold → CallTold
told_by_both n (FramedRefused k f) b = CallRefused k (OfFramed f)
told_by_both n (FramedIs t) (BlocksRefused k f) = CallRefused k f
told_by_both n (FramedIs t) (BlocksAre values bytes calls) = CallIs (record { named = n; start = t.start; head = t.head; calls = calls })

-- an ending for lines that are judged without their own; which it is makes no difference
abbrev pub some_framed : FramedEnding
some_framed = FramedTurns 0 0 0

-- what the lines before the blocks say
abbrev pub told_before : Layout → Checks → List (List ℕ) → FramedTold
told_before layout c ls = told_behind layout c (Some some_framed) (part_of layout ls)

-- what a body says after an ending
abbrev pub told_body : Layout → CallChecks → CallEnding → (before blocks : List (List ℕ)) → CallTold
told_body layout c n before [] = told_by_both n (told_before layout (c.frames (frame_name n)) before) (BlocksAre [] [] [])
told_body layout c n before (call ∷ rest) =
    told_by_both n (told_before layout (c.frames (frame_name n)) (before ++ codes "end" ∷ []))
    (blocks_told layout c.changes (InBlocks 0 [] 0) (length before + 2) (call ∷ rest))

-- what lines say after the first
abbrev pub told_after : Layout → CallChecks → Option CallEnding → Body → CallTold
told_after layout c None b = CallRefused 1 (OfFramed (OfPart StateLineFault))
told_after layout c (Some n) b = told_body layout c n b.lines b.blocks

-- What lines say. A text without lines misses its registers.
abbrev pub call_told : Layout → CallChecks → List (List ℕ) → CallTold
call_told layout c [] = CallRefused 1 (OfFramed (OfPart StateRegisterFault))
call_told layout c (first ∷ rest) = told_after layout c (call_ending_of layout c.changes first) (body_of rest)

-- what a text says
unfoldable pub call_text_of : Layout → CallChecks → List ℕ → CallTold
call_text_of layout c text = call_told layout c (split_lines text)
