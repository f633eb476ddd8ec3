-- What the program answers to a command: its status, what it writes, and its evidence.
use Rattle.std.specs.Prelude.{ℕ, ◌≡◌, ◌<◌, ◌++◌, List, [], ◌∷◌, Option, Some, None, codes, length, take, Contains, nat_le, if◌then◌else◌}
use Rattle.call_spec.specs.Outside.{Rose, Appends}
use Rattle.bilv_spec.specs.Run.{Program}
use Rattle.call_spec.specs.Calls.{Options, default_options, program_question, Evidence, NoEvidence, Answer, plain_answer, default_budget, Surroundings, AfterRead}
use Rattle.bilv_spec.specs.Files.{layout_of}
use Rattle.notes_spec.specs.Upgrades.{upgraded}
use Rattle.frame_spec.specs.Frames.{Contract}
use Rattle.frame_spec.specs.FrameVerdict.{Whole}
use Rattle.notes_spec.specs.Verified.{AfterImage, AfterNotes, IsVerified, notes_limit}
use Rattle.command_spec.specs.Commands.{usage_text, PairNames, Command, Verify, Lift, Graph, Script, Replay, Certify, Check, SelfRun, Upgrade, Model, Equal, Differ}
use Rattle.bilv_spec.specs.LiftText.{IsLiftText}
use Rattle.bilv_spec.specs.GraphText.{IsGraphText}
use Rattle.model_spec.specs.Models.{AfterBudgets, IsAskedModelAnswer}
use Rattle.pair_spec.specs.Links.{Link}
use Rattle.pair_spec.specs.Equals.{side_of, AfterElfOf, AfterNotesOf, AfterLinks, IsPairReported}
use Rattle.pair_spec.specs.Differs.{differ_answer}
use Rattle.clause_spec.specs.Checks.{IsChecked}
use Rattle.command_spec.specs.Work.{work_file, work_notes, work_text}
use Rattle.word_spec.specs.Texts.{line, line_feed}
use Rattle.answer_spec.specs.FrameGraphs.{IsFrameGraphText}
use Rattle.answer_spec.specs.FrameAnswers.{AfterFrames, IsVerifiedWhole, IsReplayedWhole, IsCertifiedWhole, IsScriptWhole}

-- the answer behind the reading of an ELF file, and its refusals
abbrev pub AfterElf : Surroundings → (elf : List ℕ) → (Next : List ℕ → Answer → Type 0) → Answer → Type 0
AfterElf s elf Next = AfterRead s elf (λ file. AfterImage file (Next file))

-- The answer behind the reading of an ELF file and of notes, in this order: the notes are read once the file is accepted.
abbrev pub AfterBoth : Surroundings → Options → (elf notes : List ℕ) → (Next : List ℕ → Program → Answer → Type 0) → Answer → Type 0
AfterBoth s o elf notes Next = AfterElf s elf (λ file. AfterRead s notes (λ text. AfterNotes o file text (Next file)))

-- so where the notes may have invariants or contracts
abbrev pub AfterWhole : Surroundings → Options → (elf notes : List ℕ) → (Next : List ℕ → Whole → Answer → Type 0) → Answer → Type 0
AfterWhole s o elf notes Next = AfterElf s elf (λ file. AfterRead s notes (λ text. AfterFrames o file text (Next file)))

-- The answer behind the reading of what two functions and their links are, in this order: both ELF files, both notes with their symbols, the links.
abbrev pub AfterPair : Surroundings → Options → PairNames → (Next : (first second : List ℕ) → (p q : Program) → List Link → Answer → Type 0) →
    Answer → Type 0
AfterPair s o names Next =
    AfterRead s names.elf (λ f. AfterElfOf (codes "first") f (AfterRead s names.other_elf (λ g. AfterElfOf (codes "second") g
    (AfterRead s names.notes (λ m. AfterNotesOf o (codes "first") f m (λ p. AfterRead s names.other_notes (λ n. AfterNotesOf o (codes "second") g n
    (λ q. AfterRead s names.links (λ text. AfterLinks f g text (Next f g p q))))))))))

-- the answer that prints the lifted words of an accepted file
abbrev pub IsLifted : Options → List ℕ → Answer → Type 0
IsLifted o file a = (written : List ℕ) × IsLiftText o file written × (a ≡ plain_answer 0 written)

-- the answer that prints a program's graph
abbrev pub IsGraphed : Program → Answer → Type 0
IsGraphed p a = (written : List ℕ) × IsGraphText p written × (a ≡ plain_answer 0 written)

-- so of notes with contracts, whose graph has their addresses too
abbrev pub IsFrameGraphed : Whole → Answer → Type 0
IsFrameGraphed w a = (written : List ℕ) × IsFrameGraphText w written × (a ≡ plain_answer 0 written)

abbrev pub ByContracts : (contracts : List Contract) → (plain framed : Type 0) → Type 0
ByContracts [] plain framed = plain
ByContracts (x ∷ rest) plain framed = framed

abbrev pub IsGraphedWhole : Whole → Answer → Type 0
IsGraphedWhole w a = ByContracts w.contracts (IsGraphed w.program a) (IsFrameGraphed w a)

-- a text's first line
abbrev pub IsFirstLine : List ℕ → List ℕ → Type 0
IsFirstLine text first = (rest : List ℕ) × (text ≡ line first ++ rest) × ¬ Contains first line_feed

-- the answer to work that was made: its verdict's status and evidence, with the first line of its text
abbrev pub IsSelfRun : (seed count : ℕ) → Answer → Type 0
IsSelfRun seed count a =
    (inner : Answer) × (first : List ℕ) × IsVerified default_options (work_file seed count) (work_notes seed count) default_budget inner
    × IsFirstLine inner.text first × (a ≡ record inner { text = line (work_text seed count ++ first) })

-- the answer that prints notes of version 2, or that these would be longer than notes may be
abbrev pub upgrade_answer : (text : List ℕ) → Answer
upgrade_answer text =
    if nat_le (length (upgraded text)) notes_limit then plain_answer 0 (upgraded text) else plain_answer 5 (line (codes "notes: TooLarge"))

-- The right answer to a command: refusals come in the order in which files are read, and a report's text is read once the program is found.
abbrev pub IsRightAnswer : Surroundings → Command → Answer → Type 0
IsRightAnswer s (Verify o elf notes b) = AfterWhole s o elf notes (λ file. IsVerifiedWhole (layout_of o file) b)
IsRightAnswer s (Lift o elf) = AfterElf s elf (IsLifted o)
IsRightAnswer s (Graph o elf notes) = AfterWhole s o elf notes (λ file. IsGraphedWhole)
IsRightAnswer s (Script o elf notes question frame b) = AfterWhole s o elf notes (λ file. IsScriptWhole (layout_of o file) b frame question)
IsRightAnswer s (Replay o elf notes report) =
    AfterWhole s o elf notes (λ file w. AfterRead s report (λ text. IsReplayedWhole (layout_of o file) text w))
IsRightAnswer s (Certify o elf notes question frame b) = AfterWhole s o elf notes (λ file. IsCertifiedWhole b frame question)
IsRightAnswer s (Check certificate) = AfterRead s certificate (λ text a. IsChecked text a.status a.text × (a.evidence ≡ NoEvidence))
IsRightAnswer s (SelfRun seed count) = IsSelfRun seed count
IsRightAnswer s (Upgrade o elf notes) = AfterElf s elf (λ file. AfterRead s notes (λ text. AfterFrames o file text (λ w a. a ≡ upgrade_answer text)))
IsRightAnswer s (Model o elf notes answer question b) =
    AfterBoth s o elf notes
    (λ file p. AfterBudgets p b (AfterRead s answer (IsAskedModelAnswer p (layout_of o file) b (program_question question))))
IsRightAnswer s (Equal o names b) = AfterPair s o names (λ f g p q links. IsPairReported (side_of o f p) (side_of o g q) links b)
IsRightAnswer s (Differ o names report) =
    AfterPair s o names (λ f g p q links. AfterRead s report (λ text a. a ≡ differ_answer (side_of o f p) (side_of o g q) links text))

-- the answer that is due: the usage where the words are no lawful command
abbrev pub IsDueAnswer : Surroundings → Option Command → Answer → Type 0
IsDueAnswer s None a = a ≡ plain_answer 2 usage_text
IsDueAnswer s (Some c) a = IsRightAnswer s c a

-- The outcome of a call: a due answer, written whole; or a failed write behind a proper front of its text, only where the sink's count rose; or want of memory,
-- which may come at any time, with nothing written.
pub data IsOutcome (s : Surroundings) (c : Option Command) (status : ℕ) (evidence : Evidence) : Type 0 where
  whole : (a : Answer) → IsDueAnswer s c a → Appends s.text_before a.text s.text_after → status ≡ a.status → evidence ≡ a.evidence →
      IsOutcome s c status evidence
  cut : (a : Answer) (n : ℕ) → IsDueAnswer s c a → n < length a.text → Appends s.text_before (take n a.text) s.text_after → Rose s.sink_before s.sink_after →
      status ≡ 7 → evidence ≡ NoEvidence → IsOutcome s c status evidence
  no_memory : Appends s.text_before [] s.text_after → status ≡ 8 → evidence ≡ NoEvidence → IsOutcome s c status evidence
