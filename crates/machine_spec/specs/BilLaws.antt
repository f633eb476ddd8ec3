-- Laws of the meaning of BIL.
use Rattle.std.specs.Prelude.{◌≡◌, ℕ, Bool, true, Some}
use Rattle.machine_spec.specs.Bil.{BilType, BilVariable, Expression, Statements}
use Rattle.machine_spec.specs.BilTyping.{typed, IsWellTyped}
use Rattle.machine_spec.specs.BilMeaning.{Env, HoldsVariables, IsOfType, evaluate, Position, Ending, Ends, RaisesException, OutOfTurns, Wrong, execute}
use Rattle.machine_spec.specs.BilCounts.{names_only, list_names_only, has_no_loop}

-- an expression that has a type, over an environment that holds its variables, has a value of that type
abbrev pub TypedIsSound : Type 0
TypedIsSound = (x : Expression) (t : BilType) (known : BilVariable → Bool) (e : Env) (choice : ℕ) →
    typed x ≡ Some t → names_only x known ≡ true → HoldsVariables known e → IsOfType t (evaluate x choice e)

-- the end is not stuck, and its environment holds the variables still
abbrev pub EndHolds : (BilVariable → Bool) → Ending → Type 0
EndHolds known (Ends p) = HoldsVariables known p.env
EndHolds known (RaisesException n p) = HoldsVariables known p.env
EndHolds known (OutOfTurns p) = HoldsVariables known p.env
EndHolds known Wrong = ⊥

-- a well typed list, from an environment that holds its variables, is never stuck, and holds them at its end, whatever end that is
abbrev pub WellTypedIsSound : Type 0
WellTypedIsSound = (list : Statements) (known : BilVariable → Bool) (p : Position) (choice : ℕ) →
    IsWellTyped list → list_names_only list known ≡ true → HoldsVariables known p.env → EndHolds known (execute list choice p)

-- the same end, with another number of turns left
abbrev pub with_turns : ℕ → Ending → Ending
with_turns t (Ends p) = Ends (record p { turns = t })
with_turns t (RaisesException n p) = RaisesException n (record p { turns = t })
with_turns t (OutOfTurns p) = OutOfTurns (record p { turns = t })
with_turns t Wrong = Wrong

-- the end is not for want of turns
abbrev pub IsWithinTurns : Ending → Type 0
IsWithinTurns (Ends p) = Unit {0}
IsWithinTurns (RaisesException n p) = Unit {0}
IsWithinTurns (OutOfTurns p) = ⊥
IsWithinTurns Wrong = Unit {0}

-- a list without loops has one end, however many turns loops may make: it spends none and wants none
abbrev pub NoLoopNoTurns : Type 0
NoLoopNoTurns = (list : Statements) (choice turns : ℕ) (p : Position) → has_no_loop list ≡ true →
    (execute list choice (record p { turns = turns }) ≡ with_turns turns (execute list choice p)) × IsWithinTurns (execute list choice p)
