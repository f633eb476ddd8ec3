-- Which command lines are lawful, and what command each is.
use Rattle.std.specs.Prelude.{ℕ, ◌≡◌, ◌^◌, ◌&&◌, List, [], ◌∷◌, Option, Some, None, Bool, true, false, codes, fold, if◌then◌else◌, nat_le}
use Rattle.std.specs.Str.{bytes_eq}
use Rattle.std.specs.Str.Parse.{digits_value, without_leading_plus}
use Rattle.call_spec.specs.Framed.{Question, EntryQuestion, FailQuestion, StepQuestion, TurnQuestion}
use Rattle.call_spec.specs.Calls.{Budget, Options}
use Rattle.word_spec.specs.Profiles.{Profile, V4, V4T, V5}
use Rattle.command_spec.specs.Commands as of
use Rattle.clap.specs.Words.{App, Row, Rule, Text, app_of, fault_of, first_of, new_app, new_rule, one_of, subcommand_of, with_rule}
use Rattle.clap.specs.Simple.{new_shape}
use Rattle.clap.specs.Walk.{is_empty}
use Rattle.clap.specs.ValueTests.{is_unsigned_in}
use Rattle.clap.specs.declared.builder.command.Command.{Command}
use Rattle.clap.specs.declared.builder.command.Command.TheViews.{out-Command}
use Rattle.clap.specs.declared.builder.value_parser.ValueParser.TheVariants as vp
use Rattle.clap.specs.declared.builder.action.ArgAction.TheVariants.{SetTrue}

-- ---- the program's command, as `clap` sees it

-- a required file name
abbrev pub file_argument : Text → Rule
file_argument name = record (new_rule name) { required = true }

-- a required whole number from low to high
abbrev pub number_argument : Text → (low high : ℕ) → Rule
number_argument name low high = record (new_rule name) { required = true; parser = Some (vp.Unsigned low high) }

-- an option, by its name
abbrev pub named_option : Text → Rule
named_option name = record (new_rule name) { long = Some name }

-- an option whose value is a whole number from low to high
abbrev pub number_option : Text → (low high : ℕ) → (default : Text) → Rule
number_option name low high default = record (named_option name) { parser = Some (vp.Unsigned low high); defaults = default ∷ [] }

-- the required option that names a question
abbrev pub question_option : Rule
question_option = record (named_option (codes "question")) { required = true }

-- the option that names a frame
abbrev pub frame_option : Rule
frame_option = named_option (codes "frame")

-- the option that names ARM's profile
abbrev pub arm_option : Rule
arm_option = record (named_option (codes "arm")) { defaults = codes "v4" ∷ [] }

-- the flag of compressed instructions
abbrev pub rvc_option : Rule
rvc_option = record (named_option (codes "rvc")) { action = Some SetTrue }

-- the options for the four budgets
abbrev pub budgets : List Rule
budgets = number_option (codes "unroll") 0 4096 (codes "64")
    ∷ number_option (codes "points") 1 16777216 (codes "65536")
    ∷ number_option (codes "size") 1 (2 ^ 62) (codes "1073741824")
    ∷ number_option (codes "conflicts") 1 4294967295 (codes "200000") ∷ []

abbrev pub with_rules : App → List Rule → App
with_rules = fold with_rule

abbrev pub command_with : (name : Text) → List Rule → App
command_with name rules = with_rules (new_app name) rules

abbrev pub elf : Rule
elf = file_argument (codes "elf")

abbrev pub notes : Rule
notes = file_argument (codes "notes")

-- a command over an ELF file, one over notes as well, one that asks a question of both, and one that asks it of a frame
abbrev pub over_elf : (name : Text) → App
over_elf name = command_with name (elf ∷ arm_option ∷ rvc_option ∷ [])

abbrev pub over_program : (name : Text) → App
over_program name = command_with name (elf ∷ notes ∷ arm_option ∷ rvc_option ∷ [])

-- a command over two ELF files, each with its notes, and links
abbrev pub over_pair : (name : Text) → App
over_pair name =
    with_rules (over_program name) (file_argument (codes "other-elf") ∷ file_argument (codes "other-notes") ∷ file_argument (codes "links") ∷ [])

abbrev pub asking : (name : Text) → App
asking name = with_rules (over_program name) (question_option ∷ budgets)

abbrev pub asking_frame : (name : Text) → App
asking_frame name = with_rule (asking name) frame_option

abbrev pub verify : App
verify = with_rules (over_program (codes "verify")) budgets

abbrev pub lift : App
lift = over_elf (codes "lift")

abbrev pub graph : App
graph = over_program (codes "graph")

abbrev pub smt : App
smt = asking_frame (codes "smt")

abbrev pub replay : App
replay = with_rule (over_program (codes "replay")) (file_argument (codes "state"))

abbrev pub cert : App
cert = asking_frame (codes "cert")

abbrev pub upgrade : App
upgrade = over_program (codes "upgrade")

abbrev pub equal : App
equal = with_rules (over_pair (codes "equal")) budgets

abbrev pub differ : App
differ = with_rule (over_pair (codes "differ")) (file_argument (codes "report"))

abbrev pub model : App
model = with_rule (asking (codes "model")) (file_argument (codes "answer"))

abbrev pub check : App
check = command_with (codes "check") (file_argument (codes "certificate") ∷ [])

abbrev pub selfrun : App
selfrun = command_with (codes "selfrun") (number_argument (codes "seed") 0 2147483647 ∷ number_argument (codes "count") 1 16000 ∷ [])

-- the program: it needs one of its subcommands
unfoldable pub bilv_app : App
bilv_app = record {
  top = record (new_shape (codes "bilv")) { is_leaf = false; subcommand_required = true };
  subs = verify.top ∷ lift.top ∷ graph.top ∷ upgrade.top ∷ smt.top ∷ cert.top ∷ check.top ∷ model.top ∷ replay.top ∷ equal.top ∷ differ.top ∷ selfrun.top ∷ [];
}

-- a command of the code shares no argument with its subcommands
abbrev pub SharesNone : Command → Type 0
SharesNone c = (out-Command c).has_globals ≡ false

-- a command of the code is this one to `clap`, and shares no argument with its subcommands
pub record IsMade (a : App) (c : Command) : Type 0 where
  pub app : app_of c ≡ a
  pub globals : SharesNone c

-- ---- what the words ask for

infixl 10 ◌>>=◌
abbrev pub ◌>>=◌ : {A B : Type 0} → Option A → (A → Option B) → Option B
None >>= f = None
Some x >>= f = f x

-- the whole number below 2^64 that a text is: decimal digits, with a plus in front or none
abbrev pub whole_number : Text → Option ℕ
whole_number text = if is_unsigned_in 0 18446744073709551615 text then Some (digits_value 10 (without_leading_plus text)) else None

-- the whole number that was found for an argument
abbrev pub whole_in : (id : Text) → List Row → Option ℕ
whole_in id rows = one_of id rows >>= whole_number

-- The number from low to high that was found for an argument. `clap` has asked the same of its text, so this refuses no line that it takes; it stands here that
-- the range of each number is seen where the number is read.
abbrev pub number_in : (low high : ℕ) → (id : Text) → List Row → Option ℕ
number_in low high id rows = whole_in id rows >>= λ n. if nat_le low n && nat_le n high then Some n else None

abbrev pub budget_in : List Row → Option Budget
budget_in rows = do
  unroll ← number_in 0 4096 (codes "unroll") rows
  points ← number_in 1 16777216 (codes "points") rows
  size ← number_in 1 (2 ^ 62) (codes "size") rows
  conflicts ← number_in 1 4294967295 (codes "conflicts") rows
  Some (record { unroll = unroll; points = points; size = size; conflicts = conflicts })

abbrev pub question_named : Text → Option Question
question_named name = if bytes_eq name (codes "entry") then Some EntryQuestion
    else if bytes_eq name (codes "fail") then Some FailQuestion
    else if bytes_eq name (codes "step") then Some StepQuestion
    else if bytes_eq name (codes "turn") then Some TurnQuestion else None

abbrev pub question_in : List Row → Option Question
question_in rows = first_of (codes "question") rows >>= question_named

abbrev pub profile_named : Text → Option Profile
profile_named name = if bytes_eq name (codes "v4") then Some V4
    else if bytes_eq name (codes "v4t") then Some V4T
    else if bytes_eq name (codes "v5") then Some V5 else None

abbrev pub profile_in : List Row → Option Profile
profile_in rows = first_of (codes "arm") rows >>= profile_named

-- a flag that is given is true, and one that is not is false
abbrev pub flag_named : Text → Option Bool
flag_named name = if bytes_eq name (codes "true") then Some true else if bytes_eq name (codes "false") then Some false else None

abbrev pub compressed_in : List Row → Option Bool
compressed_in rows = first_of (codes "rvc") rows >>= flag_named

abbrev pub options_in : List Row → Option Options
options_in rows = do
  profile ← profile_in rows
  compressed ← compressed_in rows
  Some (record { profile = profile; compressed = compressed })

abbrev pub names_in : List Row → Option of.PairNames
names_in rows = do
  elf ← first_of (codes "elf") rows
  notes ← first_of (codes "notes") rows
  other_elf ← first_of (codes "other-elf") rows
  other_notes ← first_of (codes "other-notes") rows
  links ← first_of (codes "links") rows
  Some (record { elf = elf; notes = notes; other_elf = other_elf; other_notes = other_notes; links = links })

-- each command, from what was found for its arguments
abbrev pub verify_in : List Row → Option of.Command
verify_in rows = do
  elf ← first_of (codes "elf") rows
  notes ← first_of (codes "notes") rows
  options ← options_in rows
  budget ← budget_in rows
  Some (of.Verify options elf notes budget)

abbrev pub lift_in : List Row → Option of.Command
lift_in rows = do
  elf ← first_of (codes "elf") rows
  options ← options_in rows
  Some (of.Lift options elf)

abbrev pub graph_in : List Row → Option of.Command
graph_in rows = do
  elf ← first_of (codes "elf") rows
  notes ← first_of (codes "notes") rows
  options ← options_in rows
  Some (of.Graph options elf notes)

abbrev pub smt_in : List Row → Option of.Command
smt_in rows = do
  elf ← first_of (codes "elf") rows
  notes ← first_of (codes "notes") rows
  options ← options_in rows
  question ← question_in rows
  budget ← budget_in rows
  Some (of.Script options elf notes question (first_of (codes "frame") rows) budget)

abbrev pub replay_in : List Row → Option of.Command
replay_in rows = do
  elf ← first_of (codes "elf") rows
  notes ← first_of (codes "notes") rows
  options ← options_in rows
  state ← first_of (codes "state") rows
  Some (of.Replay options elf notes state)

abbrev pub cert_in : List Row → Option of.Command
cert_in rows = do
  elf ← first_of (codes "elf") rows
  notes ← first_of (codes "notes") rows
  options ← options_in rows
  question ← question_in rows
  budget ← budget_in rows
  Some (of.Certify options elf notes question (first_of (codes "frame") rows) budget)

abbrev pub check_in : List Row → Option of.Command
check_in rows = do
  certificate ← first_of (codes "certificate") rows
  Some (of.Check certificate)

abbrev pub selfrun_in : List Row → Option of.Command
selfrun_in rows = do
  seed ← number_in 0 2147483647 (codes "seed") rows
  count ← number_in 1 16000 (codes "count") rows
  Some (of.SelfRun seed count)

abbrev pub upgrade_in : List Row → Option of.Command
upgrade_in rows = do
  elf ← first_of (codes "elf") rows
  notes ← first_of (codes "notes") rows
  options ← options_in rows
  Some (of.Upgrade options elf notes)

abbrev pub equal_in : List Row → Option of.Command
equal_in rows = do
  names ← names_in rows
  options ← options_in rows
  budget ← budget_in rows
  Some (of.Equal options names budget)

abbrev pub differ_in : List Row → Option of.Command
differ_in rows = do
  names ← names_in rows
  options ← options_in rows
  report ← first_of (codes "report") rows
  Some (of.Differ options names report)

abbrev pub model_in : List Row → Option of.Command
model_in rows = do
  elf ← first_of (codes "elf") rows
  notes ← first_of (codes "notes") rows
  answer ← first_of (codes "answer") rows
  options ← options_in rows
  question ← question_in rows
  budget ← budget_in rows
  Some (of.Model options elf notes answer question budget)

-- the command of a subcommand, by its name and what was found for its arguments
unfoldable pub command_named : Text → List Row → Option of.Command
command_named name rows = if bytes_eq name (codes "verify") then verify_in rows
    else if bytes_eq name (codes "lift") then lift_in rows
    else if bytes_eq name (codes "graph") then graph_in rows
    else if bytes_eq name (codes "smt") then smt_in rows
    else if bytes_eq name (codes "replay") then replay_in rows
    else if bytes_eq name (codes "cert") then cert_in rows
    else if bytes_eq name (codes "check") then check_in rows
    else if bytes_eq name (codes "selfrun") then selfrun_in rows
    else if bytes_eq name (codes "upgrade") then upgrade_in rows
    else if bytes_eq name (codes "equal") then equal_in rows
    else if bytes_eq name (codes "differ") then differ_in rows
    else if bytes_eq name (codes "model") then model_in rows else None

abbrev pub command_in : Option (Text × List Row) → Option of.Command
command_in found = found >>= λ p. command_named p.0 p.1

-- `clap` takes the words: of all that may be wrong with them by its rules it finds nothing
unfoldable pub takes_line : List Text → Bool
takes_line words = is_empty (fault_of bilv_app words)

-- The command of a line, by its words, the first of which is the program's name. A line is lawful where `clap` takes it, its question, if it has one, is one of
-- the four, and its profile one of the three.
abbrev pub lawful_command : List Text → Option of.Command
lawful_command words = if takes_line words then command_in (subcommand_of bilv_app words) else None
