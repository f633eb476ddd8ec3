-- Where a run of a list stands, and how it came to its end.
use Rattle.std.specs.Prelude.{ℕ, ◌≡◌, Result, Ok, Err}
use Rattle.machine_spec.specs.Bil.{Expression}
use Rattle.machine_spec.specs.BilMeaning as means
use Rattle.bil_eval.specs.declared.env.Env.{Env}
use Rattle.bil_eval.specs.declared.faults.EvalFault.{EvalFault}
use Rattle.bil_eval.specs.declared.faults.EvalFault.TheVariants as fault
use Rattle.bil_eval.specs.declared.statements.Flow.{Flow}
use Rattle.bil_eval.specs.declared.statements.Flow.TheVariants.{On, Raised}
use Rattle.bil_eval.specs.declared.statements.Progress.{Progress}
use Rattle.bil_eval.specs.Views.{env_of}

-- where a list stands
abbrev pub position : Env → Progress → means.Position
position e p = record { env = env_of e.machine e.locals.items; jump = p.jump; turns = p.turns }

-- a condition, where a list stands
abbrev pub test : Expression → ℕ → means.Position → means.Value
test e c p = means.evaluate e c p.env

-- A list that came to an end came to it at a position. Of a list that wanted memory nothing is said here.
abbrev pub Comes : Result Flow EvalFault → means.Position → means.Ending → Type 0
Comes (Ok On) p end = end ≡ means.Ends p
Comes (Ok (Raised n)) p end = end ≡ means.RaisesException n p
Comes (Err fault.OutOfTurns) p end = end ≡ means.OutOfTurns p
Comes (Err fault.Memory) p end = Unit {0}

-- a fact where memory ran out
abbrev pub IfWanting : Result Flow EvalFault → Type 0 → Type 0
IfWanting (Ok f) P = Unit {0}
IfWanting (Err fault.OutOfTurns) P = Unit {0}
IfWanting (Err fault.Memory) P = P
