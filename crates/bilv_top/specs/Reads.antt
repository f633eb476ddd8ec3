-- The files that a command names, in the order in which they are read.
use Rattle.std.specs.Prelude.{ℕ, List, [], ◌∷◌, ◌++◌, Option, None, Some}
use Rattle.command_spec.specs.Commands.{Command, Verify, Lift, Graph, Script, Replay, Certify, Check, SelfRun, Upgrade, Model, Equal, Differ, PairNames}
use Rattle.bilv_top.specs.declared.tasks.Task.{Task}
use Rattle.bilv_top.specs.declared.comparing.PairTask.{PairTask}
use Rattle.bilv_top.specs.declared.comparing.PairTask.TheVariants as pair_task

-- the files of two functions and the links between them
abbrev pub files_of_pair : PairNames → List (List ℕ)
files_of_pair names = names.elf ∷ names.other_elf ∷ names.notes ∷ names.other_notes ∷ names.links ∷ []

abbrev pub files_of : Command → List (List ℕ)
files_of (Verify o elf notes b) = elf ∷ notes ∷ []
files_of (Lift o elf) = elf ∷ []
files_of (Graph o elf notes) = elf ∷ notes ∷ []
files_of (Script o elf notes kind frame b) = elf ∷ notes ∷ []
files_of (Replay o elf notes report) = elf ∷ notes ∷ report ∷ []
files_of (Certify o elf notes kind frame b) = elf ∷ notes ∷ []
files_of (Check certificate) = certificate ∷ []
files_of (SelfRun seed count) = []
files_of (Upgrade o elf notes) = elf ∷ notes ∷ []
files_of (Model o elf notes answer kind b) = elf ∷ notes ∷ answer ∷ []
files_of (Equal o names b) = files_of_pair names
files_of (Differ o names report) = files_of_pair names ++ report ∷ []

-- an unlawful line names none
abbrev pub files_of_line : Option Command → List (List ℕ)
files_of_line None = []
files_of_line (Some c) = files_of c

-- those that a task names besides the program's
abbrev pub names_of_task : Task → List (List ℕ)
names_of_task t = t.values.now ∷ []

-- and besides those of two functions
abbrev pub names_of_pair_task : PairTask → List (List ℕ)
names_of_pair_task (pair_task.Equal budget) = []
names_of_pair_task (pair_task.Differ name) = name.now ∷ []

-- those that are read after both ELF files and the first function's notes
abbrev pub names_after_notes : PairNames → PairTask → List (List ℕ)
names_after_notes names t = names.other_notes ∷ names.links ∷ names_of_pair_task t

-- after both ELF files
abbrev pub names_after_elfs : PairNames → PairTask → List (List ℕ)
names_after_elfs names t = names.notes ∷ names_after_notes names t

-- and all
abbrev pub names_of_pair : PairNames → PairTask → List (List ℕ)
names_of_pair names t = names.elf ∷ names.other_elf ∷ names_after_elfs names t
