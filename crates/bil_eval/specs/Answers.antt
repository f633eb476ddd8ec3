-- What the call answers.
use Rattle.std.specs.Prelude.{ℕ, ◌≡◌, Some, None, Result, Ok, Err}
use Rattle.machine_spec.specs.Bil.{Statements}
use Rattle.machine_spec.specs.BilMeaning as means
use Rattle.bil_eval.specs.declared.faults.EvalFault.{EvalFault}
use Rattle.bil_eval.specs.declared.faults.EvalFault.TheVariants as fault
use Rattle.bil_eval.specs.declared.lists.End.{End}
use Rattle.bil_eval.specs.declared.lists.End.TheVariants.{Next, Jump, Exn}
use Rattle.bil_eval.specs.Passes.{Passes}

-- where a list starts: no jump was made
abbrev pub start : means.Env → ℕ → means.Position
start e turns = record { env = e; jump = None; turns = turns }

-- The answer and the environment that was left, by the list's end. Of a list that wanted memory the end is not told.
abbrev pub Answers : Result End EvalFault → means.Env → means.Ending → Type 0
Answers (Ok Next) e end = (t : ℕ) × (end ≡ means.Ends (record { env = e; jump = None; turns = t }))
Answers (Ok (Jump a)) e end = (t : ℕ) × (end ≡ means.Ends (record { env = e; jump = Some a; turns = t }))
Answers (Ok (Exn n)) e end = (p : means.Position) × (end ≡ means.RaisesException n p) × (p.env ≡ e)
Answers (Err fault.OutOfTurns) e end = (p : means.Position) × (end ≡ means.OutOfTurns p) × (p.env ≡ e)
Answers (Err fault.Memory) e end = Unit {0}

-- where memory ran out, the environment that was left is one by which the run of the list comes
abbrev pub LeftMidway : Result End EvalFault → means.Env → (choice : ℕ) → Statements → means.Position → Type 0
LeftMidway (Ok end) e choice list p = Unit {0}
LeftMidway (Err fault.OutOfTurns) e choice list p = Unit {0}
LeftMidway (Err fault.Memory) e choice list p = Passes choice e list p
