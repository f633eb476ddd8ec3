-- How many inputs of an unrolled frame there are besides bytes: those of states, and those at its points.
use Rattle.std.specs.Prelude.{ℕ, ◌≡◌, ◌+◌, ◌*◌, List, Option, length, sum_by, if◌then◌else◌}
use Rattle.std.specs.Global.{Vec}
use Rattle.word_spec.specs.RowFiles.{from_to}
use Rattle.frame_spec.specs.FrameWalk.{UnrolledProgram, point_at}
use Rattle.frame_terms.specs.FrameClauseForm.{gift_bits}
use Rattle.bil_ast.specs.declared.statements.Stmt.{Stmt}
use Rattle.question_form.specs.declared.unrolled.Deed.{Deed}
use Rattle.question_form.specs.declared.unrolled.Unrolled.{Unrolled}
use Rattle.question_form.specs.FrameViews.{action_of, frame_unrolled_of}

-- those of one state: 32 for each register, and one for each flag
abbrev pub state_inputs : UnrolledProgram → ℕ
state_inputs u = 32 * length u.registers + u.flags

-- so many are given where this is done, at whatever place
abbrev pub AreGiven : Unrolled → Deed → ℕ → Type 0
AreGiven v deed n =
    (place : ℕ) (list : Option (Vec Stmt)) (stack : List ℕ) → n ≡ length (gift_bits (frame_unrolled_of v) place (action_of v deed list stack))

-- those of the choice and of what is given at a place
abbrev pub inputs_at : UnrolledProgram → (place : ℕ) → ℕ
inputs_at u i = (if (point_at u i).draws then 2 else 0) + length (gift_bits u i (point_at u i).does)

-- those at the first places
abbrev pub inputs_below : UnrolledProgram → (count : ℕ) → ℕ
inputs_below u n = sum_by (inputs_at u) (from_to 0 n)
