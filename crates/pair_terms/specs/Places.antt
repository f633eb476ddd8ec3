-- Edges that lead out, in a program whose exit is a place.
use Rattle.std.specs.Prelude.{ℕ, ◌≡◌, ◌<◌, true, None, length, Contains}
use Rattle.bilv_spec.specs.Run.{Program}
use Rattle.walk_spec.specs.Unrolled.{PointExit, FalseAssert, Always, Raising, WritingKept, Unaligned, Along, UnrolledProgram, is_outward, point_at}
use Rattle.walk_spec.specs.Unrolling.{IsUnrolling}
use Rattle.question_form.specs.declared.unrolled.Aim.{Aim}
use Rattle.question_form.specs.declared.unrolled.Aim.TheVariants.{OnTo, IntoHead, Outward, OverLast}
use Rattle.question_form.specs.declared.unrolled.Edge.{Edge}

-- what leads out leads to a place
abbrev pub led_to : ℕ → Aim → Aim
led_to n Outward = OnTo n
led_to n (OnTo i) = OnTo i
led_to n (IntoHead at asserts) = IntoHead at asserts
led_to n OverLast = OverLast

-- an edge that is led so
abbrev pub edge_led : ℕ → Edge → Edge
edge_led n e = record e { aim = led_to n e.aim }

-- an edge out of the function is taken at the value that the link register has at entry
abbrev pub IsByLink : PointExit → Type 0
IsByLink (Along falls jumps to aim) = is_outward aim ≡ true → to ≡ None
IsByLink (FalseAssert line e) = Unit {0}
IsByLink (Always e) = Unit {0}
IsByLink Raising = Unit {0}
IsByLink WritingKept = Unit {0}
IsByLink Unaligned = Unit {0}

-- all of them are
abbrev pub LeavesByLink : UnrolledProgram → Type 0
LeavesByLink u = (i : ℕ) (x : PointExit) → i < length u.points → Contains (point_at u i).exits x → IsByLink x

-- the law that each unrolled program of a program is left so
abbrev pub UnrollingLeavesByLink : Type 0
UnrollingLeavesByLink = (p : Program) (k : ℕ) (u : UnrolledProgram) → IsUnrolling p k u → LeavesByLink u
