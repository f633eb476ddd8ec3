-- Laws of state texts.
use Rattle.std.specs.Prelude.{ℕ, ◌≡◌, ◌+◌, ◌⊎◌, Bool, false, nat_lt, if◌then◌else◌, List, [], ◌∷◌, Option, Some, None, map}
use Rattle.word_spec.specs.Texts.{split_lines}
use Rattle.machine_spec.specs.StateText.{Layout, StateText, StateLine, ByteLine, StateFault, StateByteFault, IsWritten, IsNamed, state_lines, printed, line_of, Told, StateIs, StateRefused, state_of}
use Rattle.call_spec.specs.Calls.{Options}
use Rattle.bilv_spec.specs.Files.{layout_of}

-- a text that is printed of a written state says that state, in the layout of every file and whatever bytes are known
abbrev pub PrintedIsTold : Type 0
PrintedIsTold =
    (o : Options) (file : List ℕ) (known : ℕ → Bool) (t : StateText) → IsWritten (layout_of o file) known t.start → IsNamed t.named →
    state_of (layout_of o file) known (printed (layout_of o file) t) ≡ StateIs t

-- two written states with one text are the same
abbrev pub PrintedOnce : Type 0
PrintedOnce =
    (o : Options) (file : List ℕ) (known : ℕ → Bool) (t u : StateText) → IsWritten (layout_of o file) known t.start → IsNamed t.named →
    IsWritten (layout_of o file) known u.start → IsNamed u.named → printed (layout_of o file) t ≡ printed (layout_of o file) u → t ≡ u

-- a text that says a state is printed of it, but for the last line feed, which may lack; the state can be written
abbrev pub ToldIsPrinted : Type 0
ToldIsPrinted =
    (layout : Layout) (known : ℕ → Bool) (text : List ℕ) (t : StateText) → state_of layout known text ≡ StateIs t →
    IsWritten layout known t.start × IsNamed t.named × (split_lines text ≡ state_lines layout t)

-- each text says one state, or has one first refused line with one fault, and never both
abbrev pub ToldOrRefused : Type 0
ToldOrRefused =
    (layout : Layout) (known : ℕ → Bool) (text : List ℕ) →
    (((t : StateText) × (state_of layout known text ≡ StateIs t)) ⊎ ((n : ℕ) × (f : StateFault) × (state_of layout known text ≡ StateRefused n f)))
    × ((t : StateText) (n : ℕ) (f : StateFault) → state_of layout known text ≡ StateIs t → state_of layout known text ≡ StateRefused n f → ⊥)

-- the number of the first line of a byte that is known, in lines from a number on
abbrev pub first_known : (known : ℕ → Bool) → ℕ → List (Option StateLine) → Option ℕ
first_known known n [] = None
first_known known n (Some (ByteLine a v) ∷ rest) = if known a then Some n else first_known known (n + 1) rest
first_known known n (other ∷ rest) = first_known known (n + 1) rest

-- what is told, but for a byte that is known on an earlier line than the first refused one
abbrev pub unless_known : Option ℕ → Told → Told
unless_known None told = told
unless_known (Some m) (StateIs t) = StateRefused m StateByteFault
unless_known (Some m) (StateRefused n f) = if nat_lt m n then StateRefused m StateByteFault else StateRefused n f

-- a reader that knows no byte, and the first line of a byte that is known, give what a text says
abbrev pub KnownByLine : Type 0
KnownByLine =
    (layout : Layout) (known : ℕ → Bool) (text : List ℕ) →
    state_of layout known text ≡ unless_known (first_known known 1 (map (line_of layout) (split_lines text))) (state_of layout (λ a. false) text)
