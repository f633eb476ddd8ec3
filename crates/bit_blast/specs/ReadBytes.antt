-- The addresses of base reads, and whether a byte is known there.
use Rattle.std.specs.Prelude.{ℕ, Bool, true, false, List, Option, Some, None, slice_index, slice_index_or}
use Rattle.term_dag.specs.declared.nodes.Term.{Term}

-- the word of the address of a read
abbrev pub address_word : List Term → List ℕ → (read : ℕ) → ℕ
address_word addresses words j = slice_index words (slice_index_or addresses j (record { 0 = 0 })).0

-- no byte is known
abbrev pub is_free : Option ℕ → Bool
is_free None = true
is_free (Some b) = false
