-- Entries with a gap.
use Rattle.std.specs.Prelude.{ℕ, ◌≡◌, ◌≤◌, ◌+◌, List, ◌∷◌, ◌++◌, length, reverse, vec_len, vec_capacity}
use Rattle.byte_mem.specs.Puts.{IsMemory}
use Rattle.byte_mem.specs.declared.gapped.Gapped.{Gapped}

-- the entries: those above the gap stand in the other order
abbrev pub entries_of : Gapped → List (ℕ × ℕ)
entries_of g = g.below.items ++ reverse g.above.items

-- so many more entries fit in on either side, wherever the gap is moved
pub record HasRoom (g : Gapped) (n : ℕ) : Type 0 where
  pub below : vec_len g.below + vec_len g.above + n ≤ vec_capacity g.below
  pub above : vec_len g.below + vec_len g.above + n ≤ vec_capacity g.above

-- as many fit in as before
abbrev pub KeepsRoom : Gapped → Gapped → Type 0
KeepsRoom old new = (n : ℕ) → HasRoom old n → HasRoom new n

-- another entry stands in a place, and all others are as they were
pub record IsReplaced (old : List (ℕ × ℕ)) (i : ℕ) (with : ℕ × ℕ) (new : List (ℕ × ℕ)) : Type 0 where
  pub front : List (ℕ × ℕ)
  pub back : List (ℕ × ℕ)
  pub entry : ℕ × ℕ
  pub place : length front ≡ i
  pub was : old ≡ front ++ entry ∷ back
  pub is : new ≡ front ++ with ∷ back

-- a memory that is kept so, with room for so many more entries
pub record IsStored (g : Gapped) (room : ℕ) : Type 0 where
  pub memory : IsMemory (entries_of g)
  pub spare : HasRoom g room
