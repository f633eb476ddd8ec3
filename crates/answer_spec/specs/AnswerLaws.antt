-- Laws of reports, replays and answers.
use Rattle.std.specs.Prelude.{ℕ, ◌≡◌, List, Option, Some, None}
use Rattle.call_spec.specs.Outside.{Absent, Bytes, Rose}
use Rattle.bilv_spec.specs.Run.{Program}
use Rattle.word_spec.specs.State.{State}
use Rattle.bilv_spec.specs.EntryFaults.{EntryStateFault, IsEntryStateFault}
use Rattle.bilv_spec.specs.Verdict.{IsEntryState, Verdict, Holds, Vacuous, Fails, Unroll}
use Rattle.machine_spec.specs.Endings.{NamedEnding, FailsBy, UnknownBy}
use Rattle.machine_spec.specs.StateText.{Layout}
use Rattle.call_spec.specs.Calls.{Budget, Evidence, Answer, plain_answer, Surroundings, read_fault}
use Rattle.bilv_spec.specs.Answers.{Report, HoldsReport, VacuousReport, FailsReport, UnrollReport, PointsReport, IsRightReport}
use Rattle.command_spec.specs.Commands.{Command, Verify, Lift, Graph, Script, Replay, Certify, Check, SelfRun, Upgrade, Model, Equal, Differ}
use Rattle.answer_spec.specs.Outcomes.{IsRightAnswer}
use Rattle.notes_spec.specs.Verified.{IsElfRefused}

-- the verdict that a report gives
abbrev pub verdict_of : Report → Option Verdict
verdict_of HoldsReport = Some Holds
verdict_of VacuousReport = Some Vacuous
verdict_of (FailsReport e at step) = Some Fails
verdict_of (UnrollReport at step) = Some Unroll
verdict_of other = None

-- two right reports of one program that give a verdict give the same one
abbrev pub OneReportedVerdict : Type 0
OneReportedVerdict =
    (p : Program) (layout : Layout) (b : Budget) (r t : Report) (e f : Evidence) (v w : Verdict) → IsRightReport p layout b r e → IsRightReport p layout b t f →
    verdict_of r ≡ Some v → verdict_of t ≡ Some w → v ≡ w

-- where there are more points than the budget, each right report says so
abbrev pub PointsComeFirst : Type 0
PointsComeFirst =
    (p : Program) (layout : Layout) (b : Budget) (r : Report) (e f : Evidence) → IsRightReport p layout b PointsReport e → IsRightReport p layout b r f →
    r ≡ PointsReport

-- the ending that a report names
abbrev pub named_of : Budget → Report → Option NamedEnding
named_of b (FailsReport e at step) = Some (FailsBy e at step)
named_of b (UnrollReport at step) = Some (UnknownBy b.unroll at step)
named_of b other = None

-- the file that a command reads first
abbrev pub first_file : Command → Option (List ℕ)
first_file (Verify o elf notes b) = Some elf
first_file (Lift o elf) = Some elf
first_file (Graph o elf notes) = Some elf
first_file (Script o elf notes kind frame b) = Some elf
first_file (Replay o elf notes report) = Some elf
first_file (Certify o elf notes kind frame b) = Some elf
first_file (Check certificate) = Some certificate
first_file (SelfRun seed count) = None
first_file (Upgrade o elf notes) = Some elf
first_file (Model o elf notes answer kind b) = Some elf
first_file (Equal o names b) = Some names.elf
first_file (Differ o names report) = Some names.elf

-- where no file has the name that a command reads first, its answer is a read fault, and the count of that name rose
abbrev pub AbsentFails : Type 0
AbsentFails =
    (s : Surroundings) (c : Command) (name : List ℕ) (a : Answer) → first_file c ≡ Some name → s.held name ≡ Absent → IsRightAnswer s c a →
    (a ≡ read_fault) × Rose (s.shelf_before name) (s.shelf_after name)

-- the one ELF file that a command reads
abbrev pub elf_of : Command → Option (List ℕ)
elf_of (Check certificate) = None
elf_of (Equal o names b) = None
elf_of (Differ o names report) = None
elf_of other = first_file other

-- where the ELF file is told, refused, and read without fault, its refusal is the one answer
abbrev pub ElfRefusedOnce : Type 0
ElfRefusedOnce =
    (s : Surroundings) (c : Command) (name file written : List ℕ) (a : Answer) → elf_of c ≡ Some name → s.held name ≡ Bytes file →
    (¬ Rose (s.shelf_before name) (s.shelf_after name)) → IsElfRefused file written → IsRightAnswer s c a → a ≡ plain_answer 4 written

-- a state has at most one first fault as an entry state, and an entry state has none
abbrev pub OneEntryFault : Type 0
OneEntryFault =
    (p : Program) (s : State) (f : EntryStateFault) → IsEntryStateFault p s f → ((g : EntryStateFault) → IsEntryStateFault p s g → f ≡ g) × ¬ IsEntryState p s
