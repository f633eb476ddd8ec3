-- Files in memory, and what a read of one fills.
use Rattle.std.specs.Prelude.{ℕ, ◌≡◌, ◌-◌, min, List, [], ◌∷◌, length, string_bytes, if◌then◌else◌}
use Rattle.std.specs.Str.{bytes_eq}
use Rattle.call_spec.specs.Outside.{Held, Untold, Absent, Bytes}
use Rattle.io_edges.specs.declared.files.MemFile.{MemFile}

-- what files tell of a name: the bytes of the first file that has it
abbrev pub held_by : List MemFile → List ℕ → Held
held_by [] name = Absent
held_by (f ∷ files) name = if bytes_eq (string_bytes f.name) name then Bytes f.bytes.items else held_by files name

-- the same, with an empty file under each name that no file has
abbrev pub or_empty : Held → Held
or_empty Untold = Untold
or_empty Absent = Bytes []
or_empty (Bytes file) = Bytes file

-- a read gave as many bytes as there are from a place on, and as the buffer takes
abbrev pub Fills : Held → (at : ℕ) → (buffer : List ℕ) → ℕ → Type 0
Fills Untold at buffer n = ⊥
Fills Absent at buffer n = ⊥
Fills (Bytes file) at buffer n = n ≡ min (length buffer) (length file - at)
