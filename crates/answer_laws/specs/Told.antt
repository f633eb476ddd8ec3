-- The answer to a command over files that are told.
use Rattle.std.specs.Prelude.{ℕ, ◌≡◌, List, Option}
use Rattle.call_spec.specs.Outside.{Bytes, Rose, Appends}
use Rattle.call_spec.specs.Calls.{Answer, Evidence, NoEvidence, Options, Surroundings, program_question}
use Rattle.bilv_spec.specs.Files.{layout_of}
use Rattle.command_spec.specs.Commands.{Command, Verify, Lift, Graph, Script, Replay, Certify, Check, SelfRun, Upgrade, Model, Equal, Differ, PairNames}
use Rattle.answer_spec.specs.FrameAnswers.{AfterFrames, IsVerifiedWhole, IsReplayedWhole, IsCertifiedWhole, IsScriptWhole}
use Rattle.answer_spec.specs.Outcomes.{IsLifted, IsGraphedWhole, IsSelfRun, upgrade_answer}
use Rattle.model_spec.specs.Models.{AfterBudgets, IsAskedModelAnswer}
use Rattle.pair_spec.specs.Differs.{differ_answer}
use Rattle.pair_spec.specs.Links.{Link}
use Rattle.pair_spec.specs.Equals.{side_of, ByContents, IsCompared}
use Rattle.clause_spec.specs.Checks.{IsChecked}
use Rattle.bilv_spec.specs.Run.{Program}
use Rattle.frame_spec.specs.FrameVerdict.{Whole}
use Rattle.notes_spec.specs.Verified.{AfterImage, AfterNotes}

-- the file of a name is told, by what the names' files are, and the count of its faults did not rise
abbrev pub IsTold : Surroundings → (content : List ℕ → List ℕ) → (name : List ℕ) → Type 0
IsTold s content name = (s.held name ≡ Bytes (content name)) × ¬ Rose (s.shelf_before name) (s.shelf_after name)

-- all five files of a pair are told
abbrev pub IsPairTold : Surroundings → (content : List ℕ → List ℕ) → PairNames → Type 0
IsPairTold s content names =
    IsTold s content names.elf × IsTold s content names.other_elf × IsTold s content names.notes × IsTold s content names.other_notes
    × IsTold s content names.links

-- all files that a command names are told
abbrev pub AreToldTo : Surroundings → (content : List ℕ → List ℕ) → Command → Type 0
AreToldTo s content (Verify o elf notes b) = IsTold s content elf × IsTold s content notes
AreToldTo s content (Lift o elf) = IsTold s content elf
AreToldTo s content (Graph o elf notes) = IsTold s content elf × IsTold s content notes
AreToldTo s content (Script o elf notes kind frame b) = IsTold s content elf × IsTold s content notes
AreToldTo s content (Replay o elf notes report) = IsTold s content elf × IsTold s content notes × IsTold s content report
AreToldTo s content (Certify o elf notes kind frame b) = IsTold s content elf × IsTold s content notes
AreToldTo s content (Check certificate) = IsTold s content certificate
AreToldTo s content (SelfRun seed count) = Unit {0}
AreToldTo s content (Upgrade o elf notes) = IsTold s content elf × IsTold s content notes
AreToldTo s content (Model o elf notes answer kind b) = IsTold s content elf × IsTold s content notes × IsTold s content answer
AreToldTo s content (Equal o names b) = IsPairTold s content names
AreToldTo s content (Differ o names report) = IsPairTold s content names × IsTold s content report

-- the answer to an ELF file and notes: the refusal of the first that is refused, or what is due to their program
abbrev pub AfterFiles : Options → (file text : List ℕ) → (Program → Answer → Type 0) → Answer → Type 0
AfterFiles o file text Next = AfterImage file (AfterNotes o file text Next)

-- so where the notes may have invariants or contracts
abbrev pub AfterWholeFiles : Options → (file text : List ℕ) → (Whole → Answer → Type 0) → Answer → Type 0
AfterWholeFiles o file text Next = AfterImage file (AfterFrames o file text Next)

-- the answer to the five files of a pair: the refusal of the first that is refused, or what is due to their programs and links
abbrev pub AfterPairFiles : Options → (content : List ℕ → List ℕ) → PairNames → (Program → Program → List Link → Answer → Type 0) → Answer → Type 0
AfterPairFiles o content names Next =
    ByContents o (content names.elf) (content names.other_elf) (content names.notes) (content names.other_notes) (content names.links) Next

-- the answer to a command, by what the names' files are
abbrev pub IsAnswerTo : (content : List ℕ → List ℕ) → Command → Answer → Type 0
IsAnswerTo content (Verify o elf notes b) = AfterWholeFiles o (content elf) (content notes) (IsVerifiedWhole (layout_of o (content elf)) b)
IsAnswerTo content (Lift o elf) = AfterImage (content elf) (IsLifted o (content elf))
IsAnswerTo content (Graph o elf notes) = AfterWholeFiles o (content elf) (content notes) IsGraphedWhole
IsAnswerTo content (Script o elf notes question frame b) =
    AfterWholeFiles o (content elf) (content notes) (IsScriptWhole (layout_of o (content elf)) b frame question)
IsAnswerTo content (Replay o elf notes report) =
    AfterWholeFiles o (content elf) (content notes) (IsReplayedWhole (layout_of o (content elf)) (content report))
IsAnswerTo content (Certify o elf notes question frame b) = AfterWholeFiles o (content elf) (content notes) (IsCertifiedWhole b frame question)
IsAnswerTo content (Check certificate) = λ a. IsChecked (content certificate) a.status a.text × (a.evidence ≡ NoEvidence)
IsAnswerTo content (SelfRun seed count) = IsSelfRun seed count
IsAnswerTo content (Upgrade o elf notes) = AfterWholeFiles o (content elf) (content notes) (λ w a. a ≡ upgrade_answer (content notes))
IsAnswerTo content (Model o elf notes answer question b) =
    AfterFiles o (content elf) (content notes)
    (λ p. AfterBudgets p b (IsAskedModelAnswer p (layout_of o (content elf)) b (program_question question) (content answer)))
IsAnswerTo content (Equal o names b) =
    IsCompared o (content names.elf) (content names.other_elf) (content names.notes) (content names.other_notes) (content names.links) b
IsAnswerTo content (Differ o names report) =
    AfterPairFiles o content names
    (λ p q links a. a ≡ differ_answer (side_of o (content names.elf) p) (side_of o (content names.other_elf) q) links (content report))

-- it was written whole, and its status and its evidence are those of the call
abbrev pub IsAnswered : (content : List ℕ → List ℕ) → Command → (before after : Option (List ℕ)) → (status : ℕ) → Evidence → Type 0
IsAnswered content c before after status evidence =
    (a : Answer) × IsAnswerTo content c a × (status ≡ a.status) × (evidence ≡ a.evidence) × Appends before a.text after
