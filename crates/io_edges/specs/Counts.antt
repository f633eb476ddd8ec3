-- Counts of faults, and how a read or a write raises one.
use Rattle.std.specs.Prelude.{ℕ, ◌≡◌, ◌≢◌, ◌+◌, ◌-◌, ◌^◌, ◌&&◌, ◌==◌, min, List, length, nat_lt, if◌then◌else◌}
use Rattle.call_spec.specs.Outside.{Held, Absent}

-- a count of 64 bits and one more, which stays at its last value
abbrev pub one_more : ℕ → ℕ
one_more count = min (count + 1) (2 ^ 64 - 1)

-- a count of reads that began at the first byte, after a read from a place on
abbrev pub count_begun : (at : ℕ) → ℕ → ℕ
count_begun at count = if at == 0 then one_more count else count

-- a count after a write took so many bytes of a piece: to take none of a nonempty piece is a fault
abbrev pub count_after : ℕ → List ℕ → ℕ → ℕ
count_after count piece taken = if taken == 0 && nat_lt 0 (length piece) then one_more count else count

-- The count of one name is one more. All names that are absent share a count, and no other count has changed.
pub record RaisesOnly (held : List ℕ → Held) (old new : List ℕ → ℕ) (name : List ℕ) : Type 0 where
  pub risen : new name ≡ one_more (old name)
  pub others_held : (n : List ℕ) → n ≢ name → held n ≢ Absent → new n ≡ old n
  pub others_absent : (n : List ℕ) → held name ≢ Absent → held n ≡ Absent → new n ≡ old n
