-- Which command lines are lawful, and what each asks for.
use Rattle.std.specs.Prelude.{ℕ, List, [], ◌∷◌, Option, Some, None, Bool, false, codes, if◌then◌else◌}
use Rattle.std.specs.Str.{bytes_eq}
use Rattle.clap.specs.Words.{App, Row, Rule, Text, fault_of, first_of, matches_of, new_rule}
use Rattle.clap.specs.Walk.{is_empty}
use Rattle.clap.specs.declared.builder.action.ArgAction.TheVariants.{SetTrue}
use Rattle.command_line.specs.Lines.{◌>>=◌, command_with, file_argument, number_in, number_option}
use Rattle.cnf_solver.specs.declared.request.Request as code

-- what is asked: the name of a file, how many clauses may be learned, and whether a certificate is wanted
pub record Request : Type 0 where
  pub file : Text
  pub conflicts : ℕ
  pub certificate : Bool

abbrev pub request_of : code.Request → Request
request_of r = record { file = r.file.now; conflicts = r.conflicts; certificate = r.certificate }

-- the flag that asks for a certificate
abbrev pub certificate_flag : Rule
certificate_flag = record (new_rule (codes "certificate")) { long = Some (codes "certificate"); action = Some SetTrue }

-- the program, as `clap` sees it
unfoldable pub solve_app : App
solve_app = command_with (codes "bilv_solve")
    (file_argument (codes "file") ∷ number_option (codes "conflicts") 1 4294967295 (codes "200000") ∷ certificate_flag ∷ [])

-- `clap` gives a flag that stands on the line the value true, and else false
abbrev pub is_set : Option Text → Bool
is_set None = false
is_set (Some text) = bytes_eq text (codes "true")

-- the request, from what was found for the arguments
abbrev pub request_in : List Row → Option Request
request_in rows = do
  file ← first_of (codes "file") rows
  conflicts ← number_in 1 4294967295 (codes "conflicts") rows
  Some (record { file = file; conflicts = conflicts; certificate = is_set (first_of (codes "certificate") rows) })

-- `clap` takes the words: of all that may be wrong with them by its rules it finds nothing
unfoldable pub takes_line : List Text → Bool
takes_line words = is_empty (fault_of solve_app words)

-- The request of a line, by its words, the first of which is the program's name. A line is lawful where `clap` takes it.
abbrev pub lawful_request : List Text → Option Request
lawful_request words = if takes_line words then request_in (matches_of solve_app words) else None

-- the files that a line names
abbrev pub files_of : Option Request → List Text
files_of None = []
files_of (Some r) = r.file ∷ []
