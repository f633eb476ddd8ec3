-- Files that stand at a place, and what a read takes of one.
use Rattle.std.specs.Prelude.{ℕ, ◌≡◌, ◌<◌, ◌⊎◌, List, Option, Some, None, IfSome, length, take, string_bytes}
use Rattle.std.specs.Io.KnownBytes.{Consumes, IsAtEnd}
use Rattle.io_edges.specs.declared.placed.PlacedFile.{PlacedFile}
use Rattle.io_edges.specs.declared.system.NamedFile.{NamedFile}

-- the file
abbrev pub file_in : {F : Type 0} → PlacedFile F → F
file_in p = p.file

-- where its next read goes on, if that is known
abbrev pub place_of : {F : Type 0} → PlacedFile F → Option ℕ
place_of p = p.place

-- The file was read as it stood, where it stood at the place, or as a seek to the place left it. The read took the n bytes at the buffer's front from what was
-- left there, and none of a nonempty buffer only where none is left.
pub record Takes {F : Type 0} (remaining : F → Option (List ℕ)) (position : F →
    Option ℕ) (old : PlacedFile F) (at : ℕ) (buffer : List ℕ) (new : PlacedFile F) (n : ℕ) : Type 0 where
  pub from : F
  pub stands : ((place_of old ≡ Some at) × (from ≡ file_in old)) ⊎ IfSome (position (file_in old)) (λ _. position from ≡ Some at)
  pub bytes : Consumes (remaining from) (remaining (file_in new)) (take n buffer)
  pub none_at_end : n ≡ 0 → 0 < length buffer → IsAtEnd (remaining (file_in new))

-- the file's name
abbrev pub name_of : {F : Type 0} → NamedFile F → List ℕ
name_of f = string_bytes f.name

-- the file that was read last is this one, under this name
abbrev pub IsLast : {F : Type 0} → Option (NamedFile F) → (name : List ℕ) → PlacedFile F → Type 0
IsLast None name p = ⊥
IsLast (Some f) name p = (name_of f ≡ name) × (f.placed ≡ p)

-- A read of a name took the bytes from the file of that name that was read last, or from one that was just opened. That file is the last one now; where memory
-- ran out for the name of a file that was opened, there is none.
pub record TakesNamed {F : Type 0} (remaining : F → Option (List ℕ)) (position : F →
    Option ℕ) (old : Option (NamedFile F)) (name : List ℕ) (at : ℕ) (buffer : List ℕ) (new : Option (NamedFile F)) (n : ℕ) : Type 0 where
  pub before : PlacedFile F
  pub after : PlacedFile F
  pub is : (IsLast old name before × IsLast new name after) ⊎ ((place_of before ≡ Some 0) × (IsLast new name after ⊎ (new ≡ None)))
  pub takes : Takes remaining position before at buffer after n
