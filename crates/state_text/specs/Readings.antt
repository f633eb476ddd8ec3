-- What the reader of state texts keeps of the lines that it has read, and what its faults say.
use Rattle.std.specs.Prelude.{ℕ, ◌≡◌, ◌+◌, ◌-◌, Bool, false, nat_le, if◌then◌else◌, List, [], ◌∷◌, Option, Some, None, length, take, drop}
use Rattle.std.specs.List.{list_any, list_all}
use Rattle.machine_spec.specs.StateText as texts
use Rattle.machine_spec.specs.StateText.{Layout, is_byte_below, is_choice_below, is_end_line, is_behind_bytes, lines_of_head, line_refusal, number_of_bits, bytes_in, Told, StateRefused, state_of}
use Rattle.word_spec.specs.State.{Written}
use Rattle.state_text.specs.declared.state_fault.StateFault.{StateFault}
use Rattle.state_text.specs.declared.state_fault.StateFault.TheVariants.{Line, Register, Byte, Choice, End}
use Rattle.state_text.specs.declared.state_fault.ParseFault.{ParseFault}
use Rattle.state_text.specs.declared.state_fault.ParseFault.TheVariants.{Refused, Memory}
use Rattle.state_text.specs.declared.progress.Progress.{Progress}
use Rattle.state_text.specs.declared.draft.Draft.{Draft}

-- the fault
abbrev pub fault_of : StateFault → texts.StateFault
fault_of Line = texts.StateLineFault
fault_of Register = texts.StateRegisterFault
fault_of Byte = texts.StateByteFault
fault_of Choice = texts.StateChoiceFault
fault_of End = texts.StateEndFault

-- What is told where a test tells the known bytes: a byte fault at the line of the first known byte, among bytes on lines that follow each other from a line
-- on, and else what is told without known bytes.
abbrev pub told_but : (known : ℕ → Bool) → (line : ℕ) → (bytes : List (ℕ × ℕ)) → Told → Told
told_but known n [] told = told
told_but known n (b ∷ bytes) told = if known b.0 then StateRefused n texts.StateByteFault else told_but known (n + 1) bytes told

-- the text is refused as the fault says; want of memory says nothing of it
abbrev pub IsRefused : Layout → List ℕ → ParseFault → Type 0
IsRefused layout text (Refused line kind bytes) = state_of layout (λ a. false) text ≡ StateRefused line (fault_of kind)
IsRefused layout text Memory = Unit {0}

-- the bytes of a fault are those of the lines before the refused one
abbrev pub HasBytes : List (Option texts.StateLine) → ParseFault → Type 0
HasBytes ls (Refused line kind bytes) = bytes.items ≡ bytes_in (take (line - 1) ls)
HasBytes ls Memory = Unit {0}

-- what is told by a test: of the bytes on the lines before the refused one, the first that is known goes before the fault
abbrev pub IsRefusedBy : (known : ℕ → Bool) → (layout : Layout) → (told : Told) → ParseFault → Type 0
IsRefusedBy known layout told (Refused line kind bytes) =
    told ≡ told_but known (lines_of_head layout + 1) bytes.items (StateRefused line (fault_of kind))
IsRefusedBy known layout told Memory = Unit {0}

-- where the reading stands behind lines, of which the last stands first
pub record IsBehind (before : List texts.StateLine) (p : Progress) : Type 0 where
  pub count : p.count ≡ length before
  pub bytes : (a : ℕ) → list_all (is_byte_below a) before ≡ nat_le p.next_byte a
  pub choices : (s : ℕ) → list_all (is_choice_below s) before ≡ nat_le p.next_step s
  pub behind_bytes : p.behind_bytes ≡ list_any is_behind_bytes before
  pub ended : p.ended ≡ list_any is_end_line before

-- why a line is refused behind others, where no byte is known; one that is none of the grammar is a line fault
abbrev pub refusal_of : Layout → (before : List texts.StateLine) → Option texts.StateLine → Option texts.StateFault
refusal_of layout before None = Some texts.StateLineFault
refusal_of layout before (Some l) = line_refusal layout (λ a. false) before l

-- the start that is kept
abbrev pub written_by : Layout → Draft → Written
written_by layout d = record {
  regs = take (length layout.registers) d.values.items;
  flags = number_of_bits (drop (length layout.registers) d.values.items);
  bytes = d.bytes.items;
  choices = d.choices.items;
}
