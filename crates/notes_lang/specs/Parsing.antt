-- Notes that were read.
use Rattle.std.specs.Prelude.{ℕ, Bool, ◌≡◌, ◌+◌, List, [], ◌++◌, Option, Result, Ok, Err, length}
use Rattle.word_spec.specs.Memory.{endian}
use Rattle.bilv_spec.specs.Notes.{Expr}
use Rattle.notes_spec.specs.NotesGrammar.{lines_of, Says, after_all}
use Rattle.notes_spec.specs.Scopes.{Vocabulary, Scope, Constant, Strict}
use Rattle.notes_spec.specs.NotesFaults.{AreGood, IsFirstNoteFault, begin_of}
use Rattle.machine_spec.specs.RvMachine.{rv32}
use Rattle.machine_spec.specs.Arm.{arm}
use Rattle.notes_spec.specs.RvNames.{rv_names}
use Rattle.notes_spec.specs.ArmNames.{arm_names}
use Rattle.start_value.specs.declared.layout.Layout.{Layout}
use Rattle.start_value.specs.declared.layout.Layout.TheVariants.{Rv32, Arm}
use Rattle.start_value.specs.Starts.{profile_in}
use Rattle.notes_lang.specs.declared.drafts.Draft.{Draft}
use Rattle.notes_lang.specs.declared.notes.Dialect.{Dialect}
use Rattle.notes_lang.specs.declared.notes_text.NoteFault.{NoteFault}
use Rattle.notes_lang.specs.declared.notes_text.NotesError.{NotesError}
use Rattle.notes_lang.specs.declared.notes_text.NotesError.TheVariants.{Fault, Memory}
use Rattle.notes_lang.specs.Judging.{fault_of}
use Rattle.notes_lang.specs.Named.{dialect_of}
use Rattle.notes_lang.specs.Drafting.{IsDraft}

-- the names of a machine's registers and flags
abbrev pub layout_names : Layout → List ℕ → Option Expr
layout_names (Rv32 compressed) = rv_names
layout_names (Arm big profile) = arm_names

-- some of its rows have 2 bytes
abbrev pub layout_narrow : Layout → Bool
layout_narrow (Rv32 compressed) = (rv32 compressed).narrow
layout_narrow (Arm big profile) = (arm (endian big) (profile_in profile)).narrow

-- its vocabulary in a dialect
abbrev pub layout_vocabulary : Layout → Dialect → Vocabulary
layout_vocabulary layout dialect = record { names = layout_names layout; narrow = layout_narrow layout; dialect = dialect_of dialect }

-- the registers that it has
abbrev pub layout_registers : Layout → ℕ → Bool
layout_registers (Rv32 compressed) = (rv32 compressed).has_register
layout_registers (Arm big profile) = (arm (endian big) (profile_in profile)).has_register

-- the flags that it has
abbrev pub layout_flags : Layout → ℕ → Bool
layout_flags (Rv32 compressed) = (rv32 compressed).has_flag
layout_flags (Arm big profile) = (arm (endian big) (profile_in profile)).has_flag

-- lines without fault, and what they say
pub record IsGoodDraft (s : Scope) (texts : List (List ℕ)) (draft : Draft) : Type 0 where
  pub says : List Says
  pub good : AreGood s texts says
  pub is : IsDraft says draft

-- the lines of a text are all good, and this is the number of the line behind them; or one is the first that is not good
abbrev pub IsLinesRead : Vocabulary → List ℕ → Result (Draft × ℕ) NoteFault → Type 0
IsLinesRead v text (Ok d) = IsGoodDraft (begin_of v text) (lines_of text) d.0 × (d.1 ≡ length (lines_of text) + 1)
IsLinesRead v text (Err f) = IsFirstNoteFault v text f.line (fault_of f.kind)

-- lines so far, the text that is left, and what words mean at the next line
pub record IsSoFar (v : Vocabulary) (text rest : List ℕ) (line : ℕ) (draft : Draft) (scope : Scope) : Type 0 where
  pub texts : List (List ℕ)
  pub split : lines_of text ≡ texts ++ lines_of rest
  pub number : line ≡ length texts + 1
  pub read : IsGoodDraft (begin_of v text) texts draft
  pub scope_is : scope ≡ after_all (begin_of v text) read.says

-- what words mean at a line, by the constants so far
abbrev pub scope_at : Vocabulary → List Constant → (is_second is_first : Bool) → Scope
scope_at v consts is_second is_first =
    record { names = v.names; narrow = v.narrow; dialect = v.dialect; consts = consts; bound = []; is_second = is_second; is_first = is_first; mode = Strict }

-- why notes were not read: the first fault of the text, or want of memory, of which nothing is said
abbrev pub IsRefused : Vocabulary → List ℕ → NotesError → Type 0
IsRefused v text (Fault f) = IsFirstNoteFault v text f.line (fault_of f.kind)
IsRefused v text Memory = Unit {0}
