-- What a text says by tests of addresses, where a reader that knows none has read it.
use Rattle.std.specs.Prelude.{ℕ, ◌≡◌, List, [], Option, None}
use Rattle.std.specs.Option.{option_map}
use Rattle.machine_spec.specs.StateText.{Layout}
use Rattle.frame_texts_spec.specs.FrameTexts.{Checks, FramedTold, FramedIs, FramedRefused}
use Rattle.frame_texts_spec.specs.CallTexts as texts
use Rattle.frame_texts_spec.specs.CallTexts.{CallChecks, CallTold, CallIs, CallRefused, frame_name, some_framed}
use Rattle.frame_text.specs.Readings.{JudgedHead, framed_but, judged_head, seen_head}
use Rattle.call_text.specs.Blocks.{call_fault_of}
use Rattle.call_text.specs.Texts.{called_text_of, changes_at, frame_name_of}
use Rattle.call_text.specs.declared.text.CalledText.{CalledText}
use Rattle.call_text.specs.declared.text.ContractChanges.{ContractChanges}
use Rattle.call_text.specs.declared.fault.CalledFault.{CalledFault}
use Rattle.call_text.specs.declared.fault.CalledFault.TheVariants.{Refused, Memory}

-- what a reader is told besides a text, by tests of addresses for a run of each frame and by what contracts may change
abbrev pub checks_by : (texts.FrameName → Checks) → List ContractChanges → CallChecks
checks_by frames contracts = record { frames = frames; changes = changes_at contracts }

-- lines before the blocks that no test refuses
abbrev pub passed : FramedTold
passed = FramedIs (record { named = some_framed; start = record { regs = []; flags = 0; bytes = []; choices = [] }; head = None })

-- a refusal before the blocks, or else what is told
abbrev pub unless_framed : FramedTold → CallTold → CallTold
unless_framed (FramedRefused n f) told = CallRefused n (texts.OfFramed f)
unless_framed (FramedIs t) told = told

-- what is told by tests where a reader that knows none has read these bytes and this head part, and was told this
abbrev pub called_but : Layout → Checks → (bytes : List (ℕ × ℕ)) → Option JudgedHead → CallTold → CallTold
called_but layout c bytes h told = unless_framed (framed_but layout c bytes h passed) told

-- what is told where a text was read
abbrev pub IsCalledAs : Layout → (texts.FrameName → Checks) → CallTold → CalledText → Type 0
IsCalledAs layout frames told t =
    let said = called_text_of t in
    told ≡ called_but layout (frames (frame_name said.named)) said.start.bytes (option_map judged_head said.head) (CallIs said)

-- what is told where a text was refused; want of memory says nothing of it
abbrev pub IsCalledRefused : Layout → (texts.FrameName → Checks) → CallTold → CalledFault → Type 0
IsCalledRefused layout frames told (Refused line kind frame seen) =
    told ≡ called_but layout (frames (frame_name_of frame)) seen.bytes.items (option_map seen_head seen.head) (CallRefused line (call_fault_of kind))
IsCalledRefused layout frames told Memory = Unit {0}

-- the same of a reader that knows no byte and takes every address for a head and for a return address
abbrev pub IsCallRefused : CallTold → CalledFault → Type 0
IsCallRefused told (Refused line kind frame seen) = told ≡ CallRefused line (call_fault_of kind)
IsCallRefused told Memory = Unit {0}
