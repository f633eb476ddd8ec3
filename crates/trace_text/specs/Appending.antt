-- What is appended to a text, and the symbols that tell addresses.
use Rattle.std.specs.Prelude.{ℕ, ◌≡◌, List, ◌++◌, Option}
use Rattle.std.specs.Option.{option_map}
use Rattle.symbol_table.specs.Symbols.{Symbol}
use Rattle.symbol_table.specs.Labels.{label_at}

-- a text of which a fact holds was appended
abbrev pub IsAppended : (List ℕ → Type 0) → (old new : List ℕ) → Type 0
IsAppended P old new = (text : List ℕ) × P text × (new ≡ old ++ text)

-- the name and the value of the symbol that tells an address
abbrev pub near_in : List Symbol → ℕ → Option (List ℕ × ℕ)
near_in table a = option_map (λ s. (s.name, s.value)) (label_at a table)
