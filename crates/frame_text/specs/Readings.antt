-- What a text says by tests of addresses, where a reader that knows none has read it.
use Rattle.std.specs.Prelude.{ℕ, ◌≡◌, ◌+◌, Bool, if◌then◌else◌, List, [], ◌∷◌, Option, Some, None, length}
use Rattle.std.specs.Option.{option_map}
use Rattle.word_spec.specs.State.{Written}
use Rattle.machine_spec.specs.StateText.{Layout, StateByteFault, Told, lines_of_head, value_names}
use Rattle.frame_spec.specs.FrameReports.{WrittenHead}
use Rattle.frame_texts_spec.specs.FrameTexts as texts
use Rattle.frame_texts_spec.specs.FrameTexts.{Checks, FramedTold, FramedIs, FramedRefused, OfPart, HeadFault, bad_return, head_told, misplaced, stack_of, told_head}
use Rattle.state_text.specs.Readings.{fault_of}
use Rattle.state_text.specs.declared.state_fault.ParseFault.{ParseFault}
use Rattle.state_text.specs.declared.state_fault.ParseFault.TheVariants as parse
use Rattle.frame_text.specs.Texts.{framed_text_of}
use Rattle.frame_text.specs.declared.text.FramedText.{FramedText}
use Rattle.frame_text.specs.declared.fault.FrameFault.{FrameFault}
use Rattle.frame_text.specs.declared.fault.FrameFault.TheVariants as kind
use Rattle.frame_text.specs.declared.fault.SeenHead.{SeenHead}
use Rattle.frame_text.specs.declared.fault.FramedFault.{FramedFault}
use Rattle.frame_text.specs.declared.fault.FramedFault.TheVariants.{Refused, Memory}

-- the fault
abbrev pub frame_fault_of : FrameFault → texts.FrameFault
frame_fault_of (kind.OfPart f) = OfPart (fault_of f)
frame_fault_of kind.Head = HeadFault

-- What tests judge of a head part: the address of its head, its return addresses and the bytes of its start.
pub record JudgedHead : Type 0 where
  pub at : ℕ
  pub stack : List ℕ
  pub bytes : List (ℕ × ℕ)

abbrev pub judged_head : WrittenHead → JudgedHead
judged_head h = record { at = h.at; stack = h.stack; bytes = h.start.bytes }

abbrev pub seen_head : SeenHead → JudgedHead
seen_head h = record { at = h.at; stack = h.stack.items; bytes = h.bytes.items }

-- a byte fault at the line of the first known byte, among bytes on lines that follow each other from a line on, and else what is told without known bytes
abbrev pub known_but : (known : ℕ → Bool) → (line : ℕ) → (bytes : List (ℕ × ℕ)) → FramedTold → FramedTold
known_but known n [] told = told
known_but known n (b ∷ bytes) told = if known b.0 then FramedRefused n (OfPart StateByteFault) else known_but known (n + 1) bytes told

-- a fault at the line of an address that is no return address, and else what is told
abbrev pub stack_but : Option ℕ → FramedTold → FramedTold
stack_but None told = told
stack_but (Some bad) told = FramedRefused bad HeadFault

-- the line of a head's address, behind an entry part with these bytes
abbrev pub line_of_mark : Layout → (bytes : List (ℕ × ℕ)) → ℕ
line_of_mark layout bytes = lines_of_head layout + 1 + length bytes

-- how many lines stand before the registers of a head part
abbrev pub lines_of_begin : Layout → (bytes : List (ℕ × ℕ)) → (stack : List ℕ) → ℕ
lines_of_begin layout bytes stack = line_of_mark layout bytes + length stack

-- What is told by tests of the bytes of an entry part, of a head's address and of return addresses, where this is told behind them.
abbrev pub begun_but : Layout → Checks → (bytes : List (ℕ × ℕ)) → (at : ℕ) → (stack : List ℕ) → FramedTold → FramedTold
begun_but layout c bytes at stack told =
    known_but c.known (lines_of_head layout + 1) bytes
    (if c.heads at then stack_but (bad_return c.returns (line_of_mark layout bytes + 1) stack) told else FramedRefused (line_of_mark layout bytes) HeadFault)

-- what is told by tests where a reader that knows none has read these bytes and this head part, and was told this
abbrev pub framed_but : Layout → Checks → (bytes : List (ℕ × ℕ)) → Option JudgedHead → FramedTold → FramedTold
framed_but layout c bytes None told = known_but c.known (lines_of_head layout + 1) bytes told
framed_but layout c bytes (Some h) told =
    begun_but layout c bytes h.at h.stack (known_but c.kept (lines_of_begin layout bytes h.stack + length (value_names layout) + 1) h.bytes told)

-- what is told where a text was read
abbrev pub IsToldAs : Layout → Checks → FramedTold → FramedText → Type 0
IsToldAs layout c told t =
    let said = framed_text_of t in told ≡ framed_but layout c said.start.bytes (option_map judged_head said.head) (FramedIs said)

-- what is told where a text was refused; want of memory says nothing of it
abbrev pub IsRefusedAs : Layout → Checks → FramedTold → FramedFault → Type 0
IsRefusedAs layout c told (Refused line f seen) =
    told ≡ framed_but layout c seen.bytes.items (option_map seen_head seen.head) (FramedRefused line (frame_fault_of f))
IsRefusedAs layout c told Memory = Unit {0}

-- the same of a reader that knows no byte and takes every address for a head and for a return address
abbrev pub IsFramedRefused : FramedTold → FramedFault → Type 0
IsFramedRefused told (Refused line f seen) = told ≡ FramedRefused line (frame_fault_of f)
IsFramedRefused told Memory = Unit {0}

-- the line of a fault
abbrev pub line_of_fault : ParseFault → ℕ
line_of_fault (parse.Refused line f bytes) = line
line_of_fault parse.Memory = 0

-- what is told by a head part's registers, flags, bytes and choices, with the end or before the line that ends them in its place, which stands so many lines
-- behind them
abbrev pub registers_told : texts.FramedEnding → Written → (at : ℕ) → (stack : List ℕ) → (before : ℕ) → Option ℕ → Told → FramedTold
registers_told n w at stack before None told = head_told n w at stack before told
registers_told n w at stack before (Some count) told = misplaced before (before + count + 1) told

-- what is told of an entry part that a head's address closes behind no choices
abbrev pub head_part_told : Layout → Checks → texts.FramedEnding → Written → (at : ℕ) → List (List ℕ) → FramedTold
head_part_told layout c n w at rest =
    known_but c.known (lines_of_head layout + 1) w.bytes
    (if c.heads at then told_head layout c n w at (line_of_mark layout w.bytes) (stack_of layout rest)
    else FramedRefused (line_of_mark layout w.bytes) HeadFault)
