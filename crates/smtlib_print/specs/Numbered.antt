-- The numbers of points: their places in the order of scripts.
use Rattle.std.specs.Prelude.{ℕ, ◌≡◌, ◌≢◌, ◌<◌, ◌^◌, ◌↔◌, true, List, length, map, AllPairs, slice_get, slice_index, Contains}
use Rattle.bilv_spec.specs.Points.{Point}
use Rattle.frame_spec.specs.FramePoints as frames
use Rattle.frame_spec.specs.FrameScripts.{is_frame_point_below}
use Rattle.walk_spec.specs.Unrolled.{UnrolledProgram}
use Rattle.smtlib_print.specs.Scripted.{AreNumbers}
use Rattle.smtlib_print.specs.Told.{AreInOrder}

-- no two points are one
abbrev pub AreApart : UnrolledProgram → Type 0
AreApart u = (i j : ℕ) → i < j → j < length (map (λ q. q.point) u.points) →
    slice_get (map (λ q. q.point) u.points) i ≢ slice_get (map (λ q. q.point) u.points) j

-- the numbers are those of the points in the order of scripts
abbrev pub AreNumbersOf : UnrolledProgram → (numbers : List ℕ) → Type 0
AreNumbersOf u numbers = (points : List Point) × AreInOrder u points × AreNumbers u points numbers

-- no two points of a list are one
abbrev pub AreOnce : List frames.Point → Type 0
AreOnce all = (i j : ℕ) → i < j → j < length all → slice_get all i ≢ slice_get all j

-- the points of a frame in the order of scripts, in which a point's number is its place
pub record AreFrameInOrder (all points : List frames.Point) : Type 0 where
  pub same : (q : frames.Point) → Contains points q ↔ Contains all q
  pub order : AllPairs (λ x y. is_frame_point_below x y ≡ true) points

-- numbers of the places of a frame's points: each is the place of its point among those of the script
pub record AreRanked (all points : List frames.Point) (numbers : List ℕ) : Type 0 where
  pub in_order : AreFrameInOrder all points
  pub count : length numbers ≡ length all
  pub few : length points < 2 ^ 64
  pub within : (i : ℕ) → i < length numbers → slice_index numbers i < length points
  pub at : (i : ℕ) → i < length numbers → slice_get points (slice_index numbers i) ≡ slice_get all i
  pub distinct : (i j : ℕ) → i < j → j < length numbers → slice_index numbers i ≢ slice_index numbers j
  pub once : (i n : ℕ) → i < length numbers → slice_get points n ≡ slice_get all i → n ≡ slice_index numbers i

-- the numbers are those of the points in the order of scripts
abbrev pub AreRanks : (all : List frames.Point) → (numbers : List ℕ) → Type 0
AreRanks all numbers = (points : List frames.Point) × AreRanked all points numbers
