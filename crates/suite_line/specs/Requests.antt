-- Which command lines are lawful, and what each asks for.
use Rattle.std.specs.Prelude.{ℕ, List, [], ◌∷◌, Option, Some, None, Bool, true, false, codes, if◌then◌else◌}
use Rattle.std.specs.Option.{option_map}
use Rattle.std.specs.Str.{bytes_eq}
use Rattle.clap.specs.Words.{App, Row, Rule, Text, fault_of, first_of, subcommand_of}
use Rattle.clap.specs.Simple.{new_shape}
use Rattle.clap.specs.Walk.{is_empty}
use Rattle.clap.specs.declared.builder.action.ArgAction.TheVariants.{SetTrue}
use Rattle.command_line.specs.Lines.{◌>>=◌, command_with, file_argument, named_option, over_program}
use Rattle.suite_run.specs.Requests.{Run}

-- an ELF file and a template by their names, and the options with which they are read
pub record Files : Type 0 where
  pub elf : List ℕ
  pub notes : List ℕ
  pub arm : List ℕ
  pub rvc : Bool

-- a suite is run, the notes of a template are printed, or the warnings about it
pub data Request : Type 0 where
  RunSuite : Run → Request
  PrintNotes : Files → Request
  PrintWarnings : Files → Request

-- a flag
abbrev pub flag_option : Text → Rule
flag_option name = record (named_option name) { action = Some SetTrue }

abbrev pub run_command : App
run_command = command_with (codes "run")
    (file_argument (codes "suite") ∷ named_option (codes "only") ∷ flag_option (codes "strict") ∷ flag_option (codes "list") ∷ flag_option (codes "json")
    ∷ [])

-- the program, as `clap` sees it: it needs one of its subcommands
unfoldable pub suite_app : App
suite_app = record {
  top = record (new_shape (codes "bilv_suite")) { is_leaf = false; subcommand_required = true };
  subs = run_command.top ∷ (over_program (codes "notes")).top ∷ (over_program (codes "check")).top ∷ [];
}

-- `clap` gives a flag that stands on the line the value true, and else false
abbrev pub is_set : Option Text → Bool
is_set None = false
is_set (Some text) = bytes_eq text (codes "true")

-- the request, from what was found for its arguments
abbrev pub run_in : List Row → Option Run
run_in rows = do
  suite ← first_of (codes "suite") rows
  Some (record {
    suite = suite;
    only = first_of (codes "only") rows;
    strict = is_set (first_of (codes "strict") rows);
    list = is_set (first_of (codes "list") rows);
    json = is_set (first_of (codes "json") rows);
  })

abbrev pub files_in : List Row → Option Files
files_in rows = do
  elf ← first_of (codes "elf") rows
  notes ← first_of (codes "notes") rows
  arm ← first_of (codes "arm") rows
  Some (record { elf = elf; notes = notes; arm = arm; rvc = is_set (first_of (codes "rvc") rows) })

abbrev pub request_named : Text → List Row → Option Request
request_named name rows =
    if bytes_eq name (codes "run") then option_map RunSuite (run_in rows)
    else if bytes_eq name (codes "notes") then option_map PrintNotes (files_in rows)
    else if bytes_eq name (codes "check") then option_map PrintWarnings (files_in rows) else None

abbrev pub request_in : Option (Text × List Row) → Option Request
request_in found = found >>= λ p. request_named p.0 p.1

-- `clap` takes the words: of all that may be wrong with them by its rules it finds nothing
unfoldable pub takes_line : List Text → Bool
takes_line words = is_empty (fault_of suite_app words)

-- The request of a line, by its words, the first of which is the program's name. A line is lawful where `clap` takes it.
abbrev pub lawful_request : List Text → Option Request
lawful_request words = if takes_line words then request_in (subcommand_of suite_app words) else None
