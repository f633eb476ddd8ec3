-- What is claimed of texts with blocks, and of the answers to them.
use Rattle.std.specs.Prelude.{ℕ, ◌≡◌, ◌≤◌, ◌<◌, ◌-◌, Bool, ◌⊎◌, List, [], ◌∷◌, ◌++◌, codes, Option, Some, None, length, All}
use Rattle.word_spec.specs.Texts.{joined, line, words_in, split_lines}
use Rattle.call_spec.specs.Calls.{Budget, plain_answer}
use Rattle.word_spec.specs.Memory.{Endian}
use Rattle.word_spec.specs.Profiles.{Profile}
use Rattle.machine_spec.specs.StateText.{Layout, rv_layout, arm_layout}
use Rattle.frame_spec.specs.Frames.{Contract, contract_at}
use Rattle.frame_spec.specs.FrameReports.{IsRightReport, IsShown, Shown, ShownBy, shown_start}
use Rattle.frame_spec.specs.FrameVerdict.{Whole}
use Rattle.frame_texts_spec.specs.FrameTexts.{FramedTurns, FramedTold, FramedIs, FramedRefused, framed_of}
use Rattle.frame_texts_spec.specs.FrameReplays.{frame_replay_answer}
use Rattle.frame_texts_spec.specs.CallTexts.{CallEnding, CallText, CallChecks, Changes, EntryFrame, HasChanges, Plain, IsCallText, call_of, call_printed, call_text_lines, call_ending_words, call_text_of, frame_name, shown_of, UnprovedBy, UnprovedTurns, CallTextFault, OfFramed, CallTold, CallIs, CallRefused, unproved_ending}
use Rattle.frame_texts_spec.specs.CallReplays.{call_checks, call_replay_answer, call_run_answer, changes_of, frame_named, report_of}

-- what a text without blocks says, among texts that may have them
abbrev pub without_blocks : FramedTold → CallTold
without_blocks (FramedIs t) = CallIs (record { named = Plain t.named; start = t.start; head = t.head; calls = [] })
without_blocks (FramedRefused n f) = CallRefused n (OfFramed f)

-- the first line has no ending that only notes with contracts have
abbrev pub IsFramedFirst : (ℕ → Option Changes) → List (List ℕ) → Type 0
IsFramedFirst changes [] = Unit {0}
IsFramedFirst changes (first ∷ rest) = unproved_ending changes (words_in first) ≡ None

-- no line begins a block
abbrev pub BeginsNoBlock : List (List ℕ) → Type 0
BeginsNoBlock [] = Unit {0}
BeginsNoBlock (text ∷ rest) = (call_of text ≡ None) × BeginsNoBlock rest

abbrev pub HasNoBlock : List (List ℕ) → Type 0
HasNoBlock [] = Unit {0}
HasNoBlock (first ∷ rest) = BeginsNoBlock rest

-- A text without blocks whose first line is one of texts without contracts says what it says there, and is refused as it is there.
abbrev pub BlocklessIsFramed : Type 0
BlocklessIsFramed = (layout : Layout) (c : CallChecks) (text : List ℕ) → IsFramedFirst c.changes (split_lines text) → HasNoBlock (split_lines text) →
    call_text_of layout c text ≡ without_blocks (framed_of layout (c.frames EntryFrame) text)

-- what is printed is read back, in a layout
abbrev pub IsCallReadBackIn : Layout → Type 0
IsCallReadBackIn layout = (c : CallChecks) (t : CallText) → IsCallText layout c t → call_text_of layout c (call_printed layout c.changes t) ≡ CallIs t

-- so in the layouts of all machines
abbrev pub PrintedBlocksAreReadBack : Type 0
PrintedBlocksAreReadBack =
    ((compressed : Bool) → IsCallReadBackIn (rv_layout compressed)) × ((e : Endian) (profile : Profile) → IsCallReadBackIn (arm_layout e profile))

-- what contracts may change are registers and flags of the layout
abbrev pub AreOfLayout : Layout → CallChecks → Type 0
AreOfLayout layout c = (a : ℕ) (x : Changes) → c.changes a ≡ Some x → HasChanges layout x

-- so what the contracts of a program may change, where their registers and flags are those of the layout
abbrev pub HasContracts : Layout → Whole → Type 0
HasContracts layout w = (a : ℕ) (x : Contract) → contract_at w.contracts a ≡ Some x →
    All (λ r. (layout.first ≤ r) × (r - layout.first < length layout.registers)) x.registers × All (λ f. f < length layout.flags) x.flags

abbrev pub ChangesAreOfLayout : Type 0
ChangesAreOfLayout = (layout : Layout) (w : Whole) (returns : ℕ → Bool) → HasContracts layout w → AreOfLayout layout (call_checks w returns)

-- what can be written of a program can be shown in a report
abbrev pub WrittenIsShown : Type 0
WrittenIsShown = (layout : Layout) (w : Whole) (returns : ℕ → Bool) (t : CallText) → IsCallText layout (call_checks w returns) t →
    IsShown w (frame_named w (frame_name t.named)) layout (shown_of t)

-- What a text says can be written, and its lines are those that are printed of it.
abbrev pub ToldBlocksArePrinted : Type 0
ToldBlocksArePrinted = (layout : Layout) (c : CallChecks) (text : List ℕ) (t : CallText) → AreOfLayout layout c → call_text_of layout c text ≡ CallIs t →
    IsCallText layout c t × (split_lines text ≡ call_text_lines layout c.changes t)

-- so two texts that say the same have the same lines
abbrev pub OneTextForOne : Type 0
OneTextForOne = (layout : Layout) (c : CallChecks) (text other : List ℕ) (t : CallText) → AreOfLayout layout c → call_text_of layout c text ≡ CallIs t →
    call_text_of layout c other ≡ CallIs t → split_lines text ≡ split_lines other

-- two states that are printed alike are one, in a layout
abbrev pub IsCallPrintedOnceIn : Layout → Type 0
IsCallPrintedOnceIn layout = (c : CallChecks) (t u : CallText) → IsCallText layout c t → IsCallText layout c u →
    call_printed layout c.changes t ≡ call_printed layout c.changes u → t ≡ u

abbrev pub PrintedBlocksOnce : Type 0
PrintedBlocksOnce =
    ((compressed : Bool) → IsCallPrintedOnceIn (rv_layout compressed)) × ((e : Endian) (profile : Profile) → IsCallPrintedOnceIn (arm_layout e profile))

-- Each text says one state, or is refused at one line with one fault, and never both.
abbrev pub IsCallToldOnce : CallTold → Type 0
IsCallToldOnce told = (((t : CallText) × (told ≡ CallIs t)) ⊎ ((n : ℕ) × (f : CallTextFault) × (told ≡ CallRefused n f)))
    × ((t : CallText) (n : ℕ) (f : CallTextFault) → told ≡ CallIs t → told ≡ CallRefused n f → ⊥)
    × ((t u : CallText) → told ≡ CallIs t → told ≡ CallIs u → t ≡ u)
    × ((n m : ℕ) (f g : CallTextFault) → told ≡ CallRefused n f → told ≡ CallRefused m g → (n ≡ m) × (f ≡ g))

abbrev pub OneCallReading : Type 0
OneCallReading = (layout : Layout) (c : CallChecks) (text : List ℕ) → IsCallToldOnce (call_text_of layout c text)

-- Where notes have no contracts, a text without blocks whose first line is one of texts without contracts is answered as it is without contracts.
abbrev pub BlocklessReplay : Type 0
BlocklessReplay = (w : Whole) (returns : ℕ → Bool) (layout : Layout) (text : List ℕ) → w.contracts ≡ [] → IsFramedFirst (changes_of w) (split_lines text) →
    HasNoBlock (split_lines text) → call_replay_answer w returns layout text ≡ frame_replay_answer w returns layout text

-- an ending by backward transfers has the budget's number of them
abbrev pub HasTurns : (unroll : ℕ) → CallEnding → Type 0
HasTurns unroll (Plain (FramedTurns k at step)) = k ≡ unroll
HasTurns unroll (Plain other) = Unit {0}
HasTurns unroll (UnprovedBy f e at step) = Unit {0}
HasTurns unroll (UnprovedTurns f k at step) = k ≡ unroll

-- A right report that names an ending replays.
abbrev pub FrameReportsReplay : Type 0
FrameReportsReplay = (w : Whole) (layout : Layout) (b : Budget) (n : CallEnding) (s : Shown) → HasTurns b.unroll n →
    IsRightReport w layout b (report_of w n) (ShownBy s) →
    call_run_answer (frame_named w (frame_name n)) n (shown_start w (frame_named w (frame_name n)) layout s) s.calls
    ≡ plain_answer 0 (line (codes "replayed " ++ joined (call_ending_words n)))
