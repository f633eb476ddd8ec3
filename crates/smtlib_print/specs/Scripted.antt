-- The text of a script, and the law that it tells its question.
use Rattle.std.specs.Prelude.{ℕ, ◌≡◌, ◌≢◌, ◌≤◌, ◌<◌, ◌+◌, ◌^◌, ◌&&◌, Bool, false, if◌then◌else◌, List, [], ◌∷◌, Some, length, map, slice_get, slice_index}
use Rattle.bilv_spec.specs.Points.{Point}
use Rattle.call_spec.specs.Calls.{Question}
use Rattle.frame_spec.specs.Frames.{Contract}
use Rattle.frame_spec.specs.FrameQuestions.{asks_head}
use Rattle.known_bytes.specs.Runs.{run_of}
use Rattle.question_form.specs.declared.questions.Question as forms
use Rattle.question_form.specs.declared.unrolled.Deed.{Deed}
use Rattle.question_form.specs.declared.unrolled.Deed.TheVariants as deeds
use Rattle.question_form.specs.declared.unrolled.Deed.TheVariants.{Row, Arrival}
use Rattle.question_form.specs.declared.unrolled.Unrolled.{Unrolled}
use Rattle.question_form.specs.FrameQuestions.{frame_question_of}
use Rattle.question_form.specs.FrameViews.{stepped_at}
use Rattle.question_form.specs.Views.{code_of, kept_of}
use Rattle.machine_spec.specs.StateText as texts
use Rattle.term_spec.specs.Terms.{TermNode}
use Rattle.walk_spec.specs.Unrolled.{ByteRun, UnrolledProgram, point_at}
use Rattle.walk_spec.specs.Unrolling.{IsLaidOut}
use Rattle.term_spec.specs.WalkQuestions.{TellsQuestion}
use Rattle.start_value.specs.declared.layout.Layout.{Layout}
use Rattle.start_value.specs.Starts.{layout_of}
use Rattle.smtlib_print.specs.Commands.{Given, Source, all_commands, middle_commands, nothing}
use Rattle.smtlib_print.specs.Told.{AreInOrder, TellsScript}
use Rattle.smtlib_print.specs.Written.{commands_text}

-- a run has bytes, at addresses of memory
pub record FitsMemory (r : ByteRun) : Type 0 where
  pub within : r.at + r.count ≤ 2 ^ 32
  pub bytes : (i : ℕ) → i < r.count → slice_index r.bytes i < 256

-- so have runs
abbrev pub FitMemory : List ByteRun → Type 0
FitMemory [] = Unit {0}
FitMemory (r ∷ rest) = FitsMemory r × FitMemory rest

-- runs lie behind an address, and each behind those before it
abbrev pub AreBehind : ℕ → List ByteRun → Type 0
AreBehind low [] = Unit {0}
AreBehind low (r ∷ rs) = (low ≤ r.at) × AreBehind (r.at + r.count) rs

-- numbers of the places of points: each is the place of its point among those of the script
pub record AreNumbers (u : UnrolledProgram) (points : List Point) (numbers : List ℕ) : Type 0 where
  pub count : length numbers ≡ length u.points
  pub few : length points < 2 ^ 64
  pub within : (i : ℕ) → i < length numbers → slice_index numbers i < length points
  pub at : (i : ℕ) → i < length numbers → slice_get points (slice_index numbers i) ≡ Some (point_at u i).point
  pub distinct : (i j : ℕ) → i < j → j < length numbers → slice_index numbers i ≢ slice_index numbers j
  pub once : (i n : ℕ) → i < length numbers → slice_get points n ≡ Some (point_at u i).point → n ≡ slice_index numbers i

-- what the script of a term over an unrolled program is made of
abbrev pub program_source : texts.Layout → UnrolledProgram → (numbers : List ℕ) → (nodes : List TermNode) → (root : ℕ) → Source
program_source layout u numbers nodes root = record {
  layout = layout;
  heads = false;
  numbers = numbers;
  draws = map (λ q. q.draws) u.points;
  given = [];
  known = u.known;
  kept = u.kept;
  asks_head = false;
  nodes = nodes;
  root = root;
}

-- the text of a script
abbrev pub source_text : Source → List ℕ
source_text s = commands_text (all_commands (middle_commands s))

-- the text of the script of a term over an unrolled program
abbrev pub script_text : texts.Layout → UnrolledProgram → (numbers : List ℕ) → (nodes : List TermNode) → (root : ℕ) → List ℕ
script_text layout u numbers nodes root = source_text (program_source layout u numbers nodes root)

-- whether the rows of the points draw
abbrev pub draws_of : Unrolled → List Bool
draws_of v = map (λ q. (code_of v q).draws) v.points.items

-- what a contract step of some contract is given
abbrev pub given_of : Contract → Given
given_of x = record { registers = x.registers; flags = x.flags; writes = x.writes }

-- what is given where this is done
abbrev pub given_by : Unrolled → Deed → Given
given_by v Row = nothing
given_by v Arrival = nothing
given_by v (deeds.Contract n) = given_of (stepped_at v n)

-- what the contract steps of the points are given
abbrev pub givens_of : Unrolled → List Given
givens_of v = map (λ q. given_by v q.deed) v.points.items

-- what the script of a question is made of, in which there is a head state or none, and contract steps are given something or nothing
abbrev pub source_of : forms.Question → (heads steps : Bool) → (numbers : List ℕ) → Source
source_of q heads steps numbers = let v = q.passive.now.unrolled.now in record {
  layout = layout_of v.form;
  heads = heads;
  numbers = numbers;
  draws = draws_of v;
  given = if steps then givens_of v else [];
  known = map run_of v.known.items;
  kept = map kept_of v.kept.now;
  asks_head = heads && asks_head (frame_question_of q);
  nodes = q.dag;
  root = q.root.0;
}

-- The text of the script of a question's term tells the question.
abbrev pub ScriptsTell : Type 0
ScriptsTell = (u : UnrolledProgram) (form : Layout) (points : List Point) (numbers : List ℕ) (question : Question) (nodes : List TermNode) (root : ℕ) →
    IsLaidOut (layout_of form) u → AreInOrder u points → AreNumbers u points numbers → TellsQuestion u question (record { nodes = nodes; root = root }) →
    length nodes < 2 ^ 32 →
    FitMemory u.known → AreBehind 0 u.known →
    TellsScript u (layout_of form) question (script_text (layout_of form) u numbers nodes root)
