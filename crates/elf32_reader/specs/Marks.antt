-- Where the last NUL before a place stands.
use Rattle.std.specs.Prelude.{ℕ, ◌≡◌, ◌≢◌, ◌≤◌, ◌<◌, ◌+◌, ◌-◌, ◌*◌, ◌/◌, List, length, slice_index}

-- the place behind the last NUL before a place, or 0
pub record IsMark (file : List ℕ) (at mark : ℕ) : Type 0 where
  pub within : mark ≤ at
  pub ended : 0 < mark → slice_index file (mark - 1) ≡ 0
  pub behind : (j : ℕ) → mark ≤ j → j < at → slice_index file j ≢ 0

-- the marks of the first n places that are multiples of 4096
pub record AreMarksTo (file : List ℕ) (n : ℕ) (marks : List ℕ) : Type 0 where
  pub count : length marks ≡ n
  pub each : (k : ℕ) → k < n → IsMark file (4096 * k) (slice_index marks k)

-- the marks of a whole file
abbrev pub AreMarks : List ℕ → List ℕ → Type 0
AreMarks file marks = AreMarksTo file (length file / 4096 + 1) marks
