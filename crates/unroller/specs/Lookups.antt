-- What an unrolled program as a value says at a place, and of its form.
use Rattle.std.specs.Prelude.{ℕ, ◌≡◌, ◌+◌, ◌<◌, Some, length, drop, slice_get, slice_index}
use Rattle.machine_spec.specs.Machine.{Machine}
use Rattle.machine_spec.specs.MachineLaws.{IsFitted}
use Rattle.start_value.specs.Starts.{layout_of}
use Rattle.walk_spec.specs.Unrolled.{is_register_of, is_flag_of, point_at}
use Rattle.walk_spec.specs.Unrolling.{IsLaidOut}
use Rattle.question_form.specs.declared.unrolled.Point.{Point}
use Rattle.question_form.specs.declared.unrolled.Unrolled.{Unrolled}
use Rattle.question_form.specs.Views.{point_of, unrolled_of}

-- the point at each place is that of the value at the place, whose edges end where those of the next one begin
abbrev pub PointsAreAt : Type 0
PointsAreAt = (u : Unrolled) →
    (length (unrolled_of u).points ≡ length u.points.items)
    × ((i : ℕ) (q : Point) → slice_get u.points.items i ≡ Some q → point_at (unrolled_of u) i ≡ point_of u q (drop (i + 1) u.points.items))

-- the registers and flags of the value's form are the machine's that it is fitted to
pub record HasForm (m : Machine) (u : Unrolled) : Type 0 where
  pub registers : (r : ℕ) → is_register_of (unrolled_of u) r ≡ m.has_register r
  pub rise : (i j : ℕ) → i < j → j < length (unrolled_of u).registers → slice_index (unrolled_of u).registers i < slice_index (unrolled_of u).registers j
  pub flags : (f : ℕ) → is_flag_of (unrolled_of u) f ≡ m.has_flag f
  pub laid : IsLaidOut (layout_of u.form) (unrolled_of u)

abbrev pub FormsAreRight : Type 0
FormsAreRight = (m : Machine) (u : Unrolled) → IsFitted m (layout_of u.form) → HasForm m u
