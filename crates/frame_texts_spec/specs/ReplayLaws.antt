-- What is claimed of replays of reports over frames.
use Rattle.std.specs.Prelude.{ℕ, ◌≡◌, Bool, List, []}
use Rattle.word_spec.specs.Memory.{Endian}
use Rattle.word_spec.specs.Profiles.{Profile}
use Rattle.word_spec.specs.Texts.{split_lines}
use Rattle.machine_spec.specs.StateText.{Layout, IsNamed, IsWritten, StateText, arm_layout, printed, rv_layout}
use Rattle.bilv_spec.specs.Replays.{replay_answer}
use Rattle.frame_spec.specs.FrameVerdict.{Whole}
use Rattle.frame_texts_spec.specs.FrameTextLaws.{IsPlainFirst, HasNoHeadPart}
use Rattle.frame_texts_spec.specs.FrameReplays.{frame_replay_answer}

-- Without invariants and contracts, a text without a head part whose first line is one of runs of the tables is answered as a report of such a run.
abbrev pub HeadlessReplay : Type 0
HeadlessReplay = (w : Whole) → w.invariants ≡ [] → w.contracts ≡ [] → (returns : ℕ → Bool) (layout : Layout) (text : List ℕ) →
    IsPlainFirst (split_lines text) → HasNoHeadPart layout (split_lines text) →
    frame_replay_answer w returns layout text ≡ replay_answer w.program layout text

-- Without invariants the answer hangs on no test of return addresses, since a head part is refused at the line of its head.
abbrev pub NoReturnsAsked : Type 0
NoReturnsAsked = (w : Whole) → w.invariants ≡ [] → (one other : ℕ → Bool) (layout : Layout) (text : List ℕ) →
    frame_replay_answer w one layout text ≡ frame_replay_answer w other layout text

-- What is printed of a run of the tables is such a text, in a layout.
abbrev pub IsPlainPrintedIn : Layout → Type 0
IsPlainPrintedIn layout = (known : ℕ → Bool) (t : StateText) → IsNamed t.named → IsWritten layout known t.start →
    IsPlainFirst (split_lines (printed layout t)) × HasNoHeadPart layout (split_lines (printed layout t))

-- so in the layouts of all machines
abbrev pub PlainPrinted : Type 0
PlainPrinted = ((compressed : Bool) → IsPlainPrintedIn (rv_layout compressed)) × ((e : Endian) (profile : Profile) → IsPlainPrintedIn (arm_layout e profile))
