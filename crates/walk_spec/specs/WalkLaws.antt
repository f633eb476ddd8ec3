-- Laws of unrolled programs and their walks.
use Rattle.std.specs.Prelude.{ℕ, ◌≡◌, ◌<◌, ◌^◌, length}
use Rattle.machine_spec.specs.MachineLaws.{IsFitted}
use Rattle.machine_spec.specs.StateText.{Layout}
use Rattle.bilv_spec.specs.Run.{Program}
use Rattle.bilv_spec.specs.Questions.{Reading}
use Rattle.walk_spec.specs.Unrolled.{Carried, UnrolledProgram, WalkIsAt, point_at, walk, ExitsLeadLater}
use Rattle.walk_spec.specs.Unrolling.{IsUnrolling, AreReadableBy, IsLaidOut, IsWalkable}

-- the edges of the unrolled program of a program lead to later places
abbrev pub PlacesRise : Type 0
PlacesRise = (p : Program) (k : ℕ) (u : UnrolledProgram) → IsUnrolling p k u → (0 < length u.points) × ExitsLeadLater u

-- a walk meets the point at a place at most once
abbrev pub MeetsOnce : Type 0
MeetsOnce = (u : UnrolledProgram) → 0 < length u.points → ExitsLeadLater u → (r : Reading) (i m n : ℕ) (c d : Carried) →
    walk u r m ≡ WalkIsAt i c → walk u r n ≡ WalkIsAt i d → (m ≡ n) × (c ≡ d)

-- An unrolled program of a program is walkable where it is laid out as the form of the machine, the notes can be read, and its addresses are words.
abbrev pub UnrollingIsWalkable : Type 0
UnrollingIsWalkable = (p : Program) (k : ℕ) (u : UnrolledProgram) → IsUnrolling p k u → (form : Layout) → IsFitted p.machine form → IsLaidOut form u →
    AreReadableBy u p.notes → p.entry < 2 ^ 32 → ((i : ℕ) → i < length u.points → (point_at u i).point.at < 2 ^ 32) → IsWalkable u
