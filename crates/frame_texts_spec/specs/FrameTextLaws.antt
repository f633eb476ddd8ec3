-- What is claimed of texts with head parts.
use Rattle.std.specs.Prelude.{ℕ, ◌≡◌, Bool, ◌⊎◌, List, [], ◌∷◌, None}
use Rattle.word_spec.specs.Texts.{words_in, split_lines}
use Rattle.machine_spec.specs.StateText.{Layout, rv_layout, arm_layout, Told, StateIs, StateRefused, state_of}
use Rattle.word_spec.specs.Memory.{Endian}
use Rattle.word_spec.specs.Profiles.{Profile}
use Rattle.frame_texts_spec.specs.FrameTexts.{Checks, FramedText, IsFramed, framed, framed_lines, framed_printed, new_ending, mark_of, FrameFault, OfPart, FramedTold, FramedIs, FramedRefused, framed_of}

-- what a text of a run of the tables says, among texts that may have a head part
abbrev pub without_head : Told → FramedTold
without_head (StateIs t) = FramedIs (record { named = framed t.named; start = t.start; head = None })
without_head (StateRefused n f) = FramedRefused n (OfPart f)

-- the first line has no ending that only frames have
abbrev pub IsPlainFirst : List (List ℕ) → Type 0
IsPlainFirst [] = Unit {0}
IsPlainFirst (first ∷ rest) = new_ending (words_in first) ≡ None

-- no line begins a head part
abbrev pub HasNoMark : Layout → List (List ℕ) → Type 0
HasNoMark layout [] = Unit {0}
HasNoMark layout (text ∷ rest) = (mark_of layout text ≡ None) × HasNoMark layout rest

abbrev pub HasNoHeadPart : Layout → List (List ℕ) → Type 0
HasNoHeadPart layout [] = Unit {0}
HasNoHeadPart layout (first ∷ rest) = HasNoMark layout rest

-- A text without a head part whose first line is one of runs of the tables says what it says of such a run, and is refused as it is there.
abbrev pub HeadlessIsStateText : Type 0
HeadlessIsStateText = (layout : Layout) (c : Checks) (text : List ℕ) → IsPlainFirst (split_lines text) → HasNoHeadPart layout (split_lines text) →
    framed_of layout c text ≡ without_head (state_of layout c.known text)

-- what is printed is read back, in a layout
abbrev pub IsReadBackIn : Layout → Type 0
IsReadBackIn layout = (c : Checks) (t : FramedText) → IsFramed layout c t → framed_of layout c (framed_printed layout t) ≡ FramedIs t

-- so in the layouts of all machines
abbrev pub PrintedIsReadBack : Type 0
PrintedIsReadBack = ((compressed : Bool) → IsReadBackIn (rv_layout compressed)) × ((e : Endian) (profile : Profile) → IsReadBackIn (arm_layout e profile))

-- What a text says can be written, and its lines are those that are printed of it.
abbrev pub ToldIsFramed : Type 0
ToldIsFramed = (layout : Layout) (c : Checks) (text : List ℕ) (t : FramedText) → framed_of layout c text ≡ FramedIs t →
    IsFramed layout c t × (split_lines text ≡ framed_lines layout t)

-- Each text says one state, or is refused at one line with one fault, and never both.
abbrev pub IsToldOnce : FramedTold → Type 0
IsToldOnce told = (((t : FramedText) × (told ≡ FramedIs t)) ⊎ ((n : ℕ) × (f : FrameFault) × (told ≡ FramedRefused n f)))
    × ((t : FramedText) (n : ℕ) (f : FrameFault) → told ≡ FramedIs t → told ≡ FramedRefused n f → ⊥)
    × ((t u : FramedText) → told ≡ FramedIs t → told ≡ FramedIs u → t ≡ u)
    × ((n m : ℕ) (f g : FrameFault) → told ≡ FramedRefused n f → told ≡ FramedRefused m g → (n ≡ m) × (f ≡ g))

abbrev pub OneReading : Type 0
OneReading = (layout : Layout) (c : Checks) (text : List ℕ) → IsToldOnce (framed_of layout c text)
