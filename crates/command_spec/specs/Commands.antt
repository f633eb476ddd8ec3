-- The commands.
use Rattle.std.specs.Prelude.{ℕ, ◌<◌, ◌≤◌, ◌^◌, List, Option, codes}
use Rattle.call_spec.specs.Framed.{Question}
use Rattle.call_spec.specs.Calls.{Options, Budget, IsBudget}
use Rattle.word_spec.specs.Texts.{line}

-- the names of two executables, each with its notes, and of the links between them
pub record PairNames : Type 0 where
  pub elf : List ℕ
  pub notes : List ℕ
  pub other_elf : List ℕ
  pub other_notes : List ℕ
  pub links : List ℕ

-- A command, its files by their names: options of the machine stand first. Its question is one about the frame that a word names, that of the entry where none
-- does; it is that of a program where notes have neither invariants nor contracts.
pub data Command : Type 0 where
  Verify : Options → (elf notes : List ℕ) → Budget → Command
  Lift : Options → (elf : List ℕ) → Command
  Graph : Options → (elf notes : List ℕ) → Command
  Script : Options → (elf notes : List ℕ) → Question → (frame : Option (List ℕ)) → Budget → Command
  Replay : Options → (elf notes state : List ℕ) → Command
  Certify : Options → (elf notes : List ℕ) → Question → (frame : Option (List ℕ)) → Budget → Command
  Check : (certificate : List ℕ) → Command
  SelfRun : (seed count : ℕ) → Command
  Upgrade : Options → (elf notes : List ℕ) → Command
  Model : Options → (elf notes answer : List ℕ) → Question → Budget → Command
  Equal : Options → PairNames → Budget → Command
  Differ : Options → PairNames → (report : List ℕ) → Command

-- the numbers that a command may have
abbrev pub IsLawfulCommand : Command → Type 0
IsLawfulCommand (Verify o elf notes b) = IsBudget b
IsLawfulCommand (Script o elf notes kind frame b) = IsBudget b
IsLawfulCommand (Certify o elf notes kind frame b) = IsBudget b
IsLawfulCommand (Model o elf notes answer kind b) = IsBudget b
IsLawfulCommand (Equal o names b) = IsBudget b
IsLawfulCommand (SelfRun seed count) = (seed < 2 ^ 31) × (1 ≤ count) × (count ≤ 16000)
IsLawfulCommand other = Unit {0}

-- the usage
abbrev pub usage_text : List ℕ
usage_text = line (codes "usage: bilv verify|lift|graph|smt|replay|cert|check|selfrun|upgrade|equal|differ|model")
