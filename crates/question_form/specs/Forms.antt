-- The form of an unrolled program as a value.
use Rattle.std.specs.Prelude.{ℕ, ◌≡◌, ◌≤◌, ◌<◌, ◌+◌, length, drop, slice_index_or, Contains}
use Rattle.question_form.specs.declared.unrolled.Aim.{Aim}
use Rattle.question_form.specs.declared.unrolled.Aim.TheVariants.{IntoHead}
use Rattle.question_form.specs.declared.unrolled.Code.{Code}
use Rattle.question_form.specs.declared.unrolled.Deed.TheVariants.{Contract}
use Rattle.question_form.specs.declared.unrolled.Edge.{Edge}
use Rattle.question_form.specs.declared.unrolled.Point.{Point}
use Rattle.question_form.specs.declared.unrolled.Root.{Root}
use Rattle.question_form.specs.declared.unrolled.Unrolled.{Unrolled}
use Rattle.question_form.specs.Views.{edges_from}

-- Places are those of lists: each point has a code, and its edges end where those of the next point begin; each code has a part of the assert lines by address.
pub record IsFormed (u : Unrolled) : Type 0 where
  pub codes : (i : ℕ) (d : Point) → i < length u.points.items → (slice_index_or u.points.items i d).code < length u.codes.items
  pub edges : (i : ℕ) (d : Point) → i < length u.points.items → (slice_index_or u.points.items i d).edges ≤ edges_from u (drop (i + 1) u.points.items)
  pub within : (i : ℕ) (d : Point) → i < length u.points.items → (slice_index_or u.points.items i d).edges ≤ length u.edges.items
  pub asserts : (i : ℕ) (d : Code) → i < length u.codes.items →
      ((slice_index_or u.codes.items i d).asserts.0 ≤ (slice_index_or u.codes.items i d).asserts.1) ×
      ((slice_index_or u.codes.items i d).asserts.1 ≤ length u.asserts.items)
  pub lines : (i : ℕ) (d : ℕ × ℕ) → i < length u.asserts.items → (slice_index_or u.asserts.items i d).1 < length u.notes.now.asserts.items

-- a head's part of the assert lines by address
abbrev pub AreBounds : Unrolled → ℕ × ℕ → Type 0
AreBounds u bounds = (bounds.0 ≤ bounds.1) × (bounds.1 ≤ length u.asserts.items)

-- where an edge leads to a head, its part of the assert lines
abbrev pub IsAimFormed : Unrolled → Aim → Type 0
IsAimFormed u (IntoHead at asserts) = AreBounds u asserts
IsAimFormed u aim = Unit {0}

-- Each point has a root; each root has a place, and a part of the assert lines by address; so has each edge to a head.
pub record AreRootsFormed (u : Unrolled) : Type 0 where
  pub points : (q : Point) → Contains u.points.items q → q.root < length u.roots.items
  pub places : (x : Root) → Contains u.roots.items x → (x.place < length u.points.items) × AreBounds u x.asserts
  pub edges : (e : Edge) → Contains u.edges.items e → IsAimFormed u e.aim

-- Each contract step is of a contract that is stepped over, on a stack that is not empty.
pub record AreStepsFormed (u : Unrolled) : Type 0 where
  pub contracts : (q : Point) (n : ℕ) → Contains u.points.items q → q.deed ≡ Contract n → (n < length u.stepped.now) × (1 ≤ q.stack)
