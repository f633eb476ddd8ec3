-- What is read of the text of a report over frames, as definitions see it.
use Rattle.std.specs.Prelude.{ℕ, ◌+◌, nat_eq, Bool, if◌then◌else◌, List, Option, Some, None, length}
use Rattle.std.specs.List.{list_any}
use Rattle.bilv_spec.specs.Elf.{loaded, is_kept}
use Rattle.bilv_spec.specs.Files.{program_of}
use Rattle.machine_spec.specs.Machine.{Machine}
use Rattle.machine_spec.specs.StateText.{Layout, IsWritten, value_names}
use Rattle.frame_texts_spec.specs.FrameTexts.{Checks, FramedTold, FramedRefused, HeadFault, bad_return}
use Rattle.frame_texts_spec.specs.CallTexts.{CallTold, CallIs, CallRefused, OfFramed, BlockFault}
use Rattle.frame_texts_spec.specs.FrameReplays.{checks_of}
use Rattle.frame_spec.specs.FrameVerdict.{Whole}
use Rattle.call_text.specs.Texts.{called_text_of}
use Rattle.frame_text.specs.Readings.{JudgedHead, frame_fault_of, known_but, stack_but}
use Rattle.notes_value.specs.NoteViews.{notes_of}
use Rattle.notes_value.specs.declared.notes.Notes.{Notes}
use Rattle.start_value.specs.Starts.{written_of}
use Rattle.state_text.specs.declared.start.HeadStart.{HeadStart}
use Rattle.table_run.specs.FrameEnds.{whole_of}
use Rattle.frame_replay.specs.declared.reading.Refusal.{Refusal}
use Rattle.frame_replay.specs.declared.reading.Reading.{Reading}
use Rattle.frame_replay.specs.declared.reading.Reading.TheVariants.{State, Refused, Block}
use Rattle.frame_replay.specs.declared.judging.HeadLines.{HeadLines}

-- the number is one of a list
abbrev pub is_among : List ℕ → ℕ → Bool
is_among list n = list_any (nat_eq n) list

-- the program of a file and notes with invariants
abbrev pub whole_by : Machine → (file : List ℕ) → Notes → (invariants : List ℕ) → (entry : ℕ) → Whole
whole_by m file notes invariants entry = whole_of (program_of m file (notes_of notes) entry) invariants

-- what its reader is told besides a text, where return addresses are listed
abbrev pub checks_by : Machine → (file : List ℕ) → Notes → (invariants returns : List ℕ) → (entry : ℕ) → Checks
checks_by m file notes invariants returns entry = checks_of (whole_by m file notes invariants entry) (is_among returns)

-- the byte at an address is kept
abbrev pub is_kept_in : (file : List ℕ) → ℕ → Bool
is_kept_in file a = is_kept (loaded file a)

-- what is judged of a head part
abbrev pub judged_lines : HeadLines → JudgedHead
judged_lines h = record { at = h.at; stack = h.stack.now; bytes = h.bytes.now }

-- what is told by tests of a head part, whose first line has a number, where this is told behind it
abbrev pub head_but : Layout → Checks → (mark : ℕ) → JudgedHead → FramedTold → FramedTold
head_but layout c mark h told =
    if c.heads h.at then stack_but (bad_return c.returns (mark + 1) h.stack)
    (known_but c.kept (mark + length h.stack + length (value_names layout) + 1) h.bytes told) else FramedRefused mark HeadFault

-- what is told
abbrev pub refusal_of : Refusal → FramedTold
refusal_of r = FramedRefused r.line (frame_fault_of r.kind)

abbrev pub told_of : Reading → CallTold
told_of (State text) = CallIs (called_text_of text)
told_of (Refused r) = CallRefused r.line (OfFramed (frame_fault_of r.kind))
told_of (Block line) = CallRefused line BlockFault

-- the head state of a text can be written: it gives no byte that is kept
abbrev pub IsHeadWritten : Layout → (file : List ℕ) → Option HeadStart → Type 0
IsHeadWritten layout file None = Unit {0}
IsHeadWritten layout file (Some h) = IsWritten layout (is_kept_in file) (written_of h.start)
