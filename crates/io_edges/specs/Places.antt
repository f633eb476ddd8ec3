-- Places of files.
use Rattle.std.specs.Prelude.{ℕ, zero, suc, List, [], ◌∷◌, ◌≡◌, true, false, string_bytes}
use Rattle.std.specs.Str.{bytes_eq}
use Rattle.io_edges.specs.declared.files.MemFile.{MemFile}

-- the first file of a name is at this place
abbrev pub IsPlace : List MemFile → List ℕ → ℕ → Type 0
IsPlace [] name i = ⊥
IsPlace (f ∷ files) name zero = bytes_eq (string_bytes f.name) name ≡ true
IsPlace (f ∷ files) name (suc i) = (bytes_eq (string_bytes f.name) name ≡ false) × IsPlace files name i
