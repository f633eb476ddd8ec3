-- What shelves tell, and their counts.
use Rattle.std.specs.Prelude.{ℕ, ◌≡◌, ◌==◌, ◌⊎◌, List, [], ◌∷◌, Option, Contains, string_bytes, if◌then◌else◌}
use Rattle.std.specs.Str.{bytes_eq}
use Rattle.call_spec.specs.Outside.{Held, Absent}
use Rattle.io_edges.specs.declared.files.MemFile.{MemFile}
use Rattle.io_edges.specs.declared.mem_shelf.MemShelf.{MemShelf}
use Rattle.io_edges.specs.declared.never_fail.NeverFailShelf.{NeverFailShelf}
use Rattle.io_edges.specs.declared.system.FileShelf.{FileShelf}
use Rattle.io_edges.specs.declared.system.NamedFile.{NamedFile}
use Rattle.io_edges.specs.Files.{held_by, or_empty}

-- the count of the first file of a name, or that of the names that no file has
abbrev pub count_at : List MemFile → List ℕ → ℕ → List ℕ → ℕ
count_at [] counts absent name = absent
count_at (f ∷ files) [] absent name = absent
count_at (f ∷ files) (count ∷ counts) absent name = if bytes_eq (string_bytes f.name) name then count else count_at files counts absent name

-- what a shelf in memory holds under a name
abbrev pub held_in : MemShelf → List ℕ → Held
held_in s name = held_by s.files.items name

-- how many reads of a name failed
abbrev pub faults_in : MemShelf → List ℕ → ℕ
faults_in s name = count_at s.files.items s.counts.items s.absent name

-- how many reads of a name began at a place, by the counts of the files: those that began at a first byte are counted
abbrev pub begun_at : List MemFile → List ℕ → List ℕ → (place : ℕ) → ℕ
begun_at files counts name place = if place == 0 then count_at files counts 0 name else 0

abbrev pub begun_in : MemShelf → List ℕ → (place : ℕ) → ℕ
begun_in s name place = begun_at s.files.items s.begun.items name place

-- the numbers of the reads that fail
abbrev pub failing_reads : MemShelf → List ℕ
failing_reads s = s.failing.items

-- how many reads were made, which is the next one's number
abbrev pub reads_made : MemShelf → ℕ
reads_made s = s.calls

-- the next read of a name fails: its number is one of those, or no file has the name
abbrev pub FailsNext : MemShelf → List ℕ → Type 0
FailsNext s name = Contains (failing_reads s) (reads_made s) ⊎ (held_in s name ≡ Absent)

-- what a shelf that never fails holds under a name
abbrev pub kept_in : NeverFailShelf → List ℕ → Held
kept_in s name = or_empty (held_by s.files.items name)

-- how many reads of a shelf of the file system failed
abbrev pub file_faults : {R F D : Type 0} → FileShelf R F D → ℕ
file_faults s = s.faults

-- the file that it read last
abbrev pub last_file : {R F D : Type 0} → FileShelf R F D → Option (NamedFile F)
last_file s = s.last
