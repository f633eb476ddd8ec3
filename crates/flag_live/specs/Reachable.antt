-- What is reached over edges, and the marks of a walk over them.
use Rattle.std.specs.Prelude.{ℕ, ◌≡◌, ◌≤◌, ◌<◌, ◌⊎◌, ◌+◌, Bool, true, false, List, [], ◌∷◌, ◌++◌, length, slice_index_or, slice_set, Contains, if◌then◌else◌}

-- the vertices below a count that are reached: starts, and where an edge leads from one that is reached
pub data Reaches (count : ℕ) (edges : List (ℕ × ℕ)) (starts : List ℕ) : ℕ → Type 0 where
  start : {v : ℕ} → v < count → Contains starts v → Reaches count edges starts v
  along : {u v : ℕ} → Reaches count edges starts u → v < count → Contains edges (u, v) → Reaches count edges starts v

-- a vertex is marked
abbrev pub IsMarked : List Bool → ℕ → Type 0
IsMarked marked v = slice_index_or marked v false ≡ true

-- how many are marked
abbrev pub count_marked : List Bool → ℕ
count_marked [] = 0
count_marked (b ∷ bs) = (if b then 1 else 0) + count_marked bs

-- a vertex was marked and queued, unless it was marked before or is none
pub data IsMark (marked : List Bool) (queue : List ℕ) (v : ℕ) (marked' : List Bool) (queue' : List ℕ) : Type 0 where
  same : (length marked ≤ v) ⊎ IsMarked marked v → marked' ≡ marked → queue' ≡ queue → IsMark marked queue v marked' queue'
  more : v < length marked → slice_index_or marked v false ≡ false → marked' ≡ slice_set marked v true → queue' ≡ queue ++ v ∷ [] →
      IsMark marked queue v marked' queue'

-- what was marked stays, and the queue only grows
pub record Extends (marked : List Bool) (queue : List ℕ) (marked' : List Bool) (queue' : List ℕ) : Type 0 where
  pub size : length marked' ≡ length marked
  pub kept : (v : ℕ) → IsMarked marked v → IsMarked marked' v
  pub longer : length queue ≤ length queue'
  pub before : (k d : ℕ) → k < length queue → slice_index_or queue' k d ≡ slice_index_or queue k d

-- the marked vertices stand in the queue, each once, and all in it are reached
pub record IsWalk (edges : List (ℕ × ℕ)) (starts : List ℕ) (marked : List Bool) (queue : List ℕ) : Type 0 where
  pub once : length queue ≡ count_marked marked
  pub queued : (v : ℕ) → IsMarked marked v → Contains queue v
  pub only : (k d : ℕ) → k < length queue → IsMarked marked (slice_index_or queue k d)
  pub reached : (k d : ℕ) → k < length queue → Reaches (length marked) edges starts (slice_index_or queue k d)

-- the edges of the first vertices of the queue were followed
abbrev pub IsFollowed : List (ℕ × ℕ) → List Bool → List ℕ → ℕ → Type 0
IsFollowed edges marked queue n = (k d to : ℕ) → k < n → Contains edges (slice_index_or queue k d, to) → to < length marked → IsMarked marked to
