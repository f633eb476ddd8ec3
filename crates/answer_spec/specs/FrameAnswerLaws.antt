-- Laws of answers to notes that may have invariants or contracts.
use Rattle.std.specs.Prelude.{ℕ, ◌≡◌, ◌≤◌, ◌<◌, All, ◌↔◌, Bool, false, List, [], Some, None, map, slice_get, Contains}
use Rattle.std.specs.List.Sorted.{IsStrictlyIncreasing}
use Rattle.machine_spec.specs.Machine.{IsAtPlace}
use Rattle.word_spec.specs.Texts.{split_lines}
use Rattle.call_spec.specs.Framed as framed
use Rattle.call_spec.specs.Calls.{Options, Question, program_question, Budget, Answer}
use Rattle.bilv_spec.specs.Certified.{IsCertified}
use Rattle.bilv_spec.specs.Notes.{Assert}
use Rattle.bilv_spec.specs.Scripts.{IsScriptAnswer}
use Rattle.frame_texts_spec.specs.CallReplays.{rank_named, call_replay_answer}
use Rattle.frame_texts_spec.specs.CallTextLaws.{IsFramedFirst, HasNoBlock}
use Rattle.frame_texts_spec.specs.FrameReplays.{frame_replay_answer}
use Rattle.frame_texts_spec.specs.FrameTextLaws.{IsPlainFirst, HasNoHeadPart}
use Rattle.answer_spec.specs.Outcomes.{IsGraphed, IsGraphedWhole, upgrade_answer}
use Rattle.machine_spec.specs.StateText.{Layout}
use Rattle.bilv_spec.specs.Run.{Program}
use Rattle.bilv_spec.specs.Answers.{IsReported}
use Rattle.bilv_spec.specs.Replays.{replay_answer}
use Rattle.frame_spec.specs.Frames.{Contract, Frame}
use Rattle.frame_spec.specs.FramePoints.{Point}
use Rattle.frame_spec.specs.FrameReports.{last_rank}
use Rattle.frame_spec.specs.FrameScripts.{AreFrameNumbered, frame_symbols_of}
use Rattle.frame_spec.specs.FrameVerdict.{Whole}
use Rattle.frame_spec.specs.Theorems.{IsOfNow}
use Rattle.notes_spec.specs.Scopes.{Plain}
use Rattle.notes_spec.specs.Verified.{AfterNotes, IsFound}
use Rattle.answer_spec.specs.FrameAnswers.{invariant_words, contract_words, has_line, dialect_for, IsFrameFound, AfterFrames, IsFrameReplayed, IsVerifiedWhole, IsReplayedWhole, IsCertifiedWhole, IsScriptWhole, name_of, number_word, asked_rank}
use Rattle.answer_spec.specs.FrameModels.{frame_declared}

-- no line begins with the word of invariants or with one of contracts
abbrev pub IsPlainText : List ℕ → Type 0
IsPlainText text = (has_line invariant_words text ≡ false) × (has_line contract_words text ≡ false)

-- such a text is verified as where lines of invariants and contracts are unknown: the same refusals, and the same reports
abbrev pub VerifiedAsBefore : Type 0
VerifiedAsBefore =
    (o : Options) (file text : List ℕ) (layout : Layout) (b : Budget) (a : Answer) → IsPlainText text →
    AfterFrames o file text (IsVerifiedWhole layout b) a ↔ AfterNotes o file text (λ p. IsReported p layout b) a

-- no line of a report begins a block, and its first line is none that only notes with contracts have
abbrev pub HasNoCall : (report : List (List ℕ)) → Type 0
HasNoCall ls = IsFramedFirst (λ a. None) ls × HasNoBlock ls

-- So is a report replayed without a head part and without blocks, whose first line is one of runs of the tables. (Another one is read as one over frames: a head
-- part is refused at the line of its head, a block at its first line, and an ending of the entry's frame is compared with what is found.)
abbrev pub ReplayedAsBefore : Type 0
ReplayedAsBefore =
    (o : Options) (file text report : List ℕ) (layout : Layout) (a : Answer) → IsPlainText text → IsPlainFirst (split_lines report) →
    HasNoHeadPart layout (split_lines report) → HasNoCall (split_lines report) →
    AfterFrames o file text (IsReplayedWhole layout report) a ↔ AfterNotes o file text (λ p x. x ≡ replay_answer p layout report) a

-- Where there are no contracts, such a report is replayed over frames as where blocks are unknown.
abbrev pub ReplayedWithoutCalls : Type 0
ReplayedWithoutCalls =
    (w : Whole) (layout : Layout) (report : List ℕ) → w.contracts ≡ [] → HasNoCall (split_lines report) →
    (returns : ℕ → Bool) → call_replay_answer w returns layout report ≡ frame_replay_answer w returns layout report

-- what is answered to a report over frames is the answer also where there are no invariants
abbrev pub ReplayedByFrames : Type 0
ReplayedByFrames = (w : Whole) (layout : Layout) (report : List ℕ) (a : Answer) → IsFrameReplayed w layout report a → IsReplayedWhole layout report w a

-- so is a question of a program certified, and its script printed
abbrev pub CertifiedAsBefore : Type 0
CertifiedAsBefore =
    (o : Options) (file text : List ℕ) (b : Budget) (question : framed.Question) (kind : Question) (a : Answer) → IsPlainText text →
    program_question question ≡ Some kind →
    AfterFrames o file text (IsCertifiedWhole b None question) a ↔ AfterNotes o file text (λ p x. IsCertified p b kind x.status x.text x.evidence) a

abbrev pub ScriptedAsBefore : Type 0
ScriptedAsBefore =
    (o : Options) (file text : List ℕ) (layout : Layout) (b : Budget) (question : framed.Question) (kind : Question) (a : Answer) → IsPlainText text →
    program_question question ≡ Some kind →
    AfterFrames o file text (IsScriptWhole layout b None question) a ↔ AfterNotes o file text (λ p. IsScriptAnswer p layout b kind) a

-- where there are no contracts, no word names a frame
abbrev pub NoFrameNamed : Type 0
NoFrameNamed = (w : Whole) → w.contracts ≡ [] → (word : List ℕ) → asked_rank w (Some word) ≡ None

-- a word names the frame of a contract at most, whose address it is as a number
abbrev pub FrameIsNamed : Type 0
FrameIsNamed =
    (w : Whole) (word : List ℕ) (rank : ℕ) → asked_rank w (Some word) ≡ Some rank →
    (x : Contract) × (slice_get w.contracts rank ≡ Some x) × (number_word word ≡ Some x.at)

-- so is the graph printed, and so are the notes of version 2
abbrev pub GraphedAsBefore : Type 0
GraphedAsBefore =
    (o : Options) (file text : List ℕ) (a : Answer) → IsPlainText text →
    AfterFrames o file text IsGraphedWhole a ↔ AfterNotes o file text IsGraphed a

abbrev pub UpgradedAsBefore : Type 0
UpgradedAsBefore =
    (o : Options) (file text : List ℕ) (a : Answer) → IsPlainText text →
    AfterFrames o file text (λ w x. x ≡ upgrade_answer text) a ↔ AfterNotes o file text (λ p x. x ≡ upgrade_answer text) a

-- a program that two files are without invariants and contracts is what they are, and nothing else is
abbrev pub ProgramsAreWhole : Type 0
ProgramsAreWhole =
    (o : Options) (file text : List ℕ) (p : Program) → IsFound o file text p →
    (dialect_for text ≡ Plain) × ((w : Whole) → IsFrameFound o file text w → (w.program ≡ p) × (w.invariants ≡ []) × (w.contracts ≡ []))

-- two files are one whole at most
abbrev pub OneWhole : Type 0
OneWhole = (o : Options) (file text : List ℕ) (w v : Whole) → IsFrameFound o file text w → IsFrameFound o file text v → v ≡ w

-- What is asked of a contract of two files: a row can stand at its address, which is that of no other contract; the registers that it may change are below 32, and
-- the flags below 4; with it there are no invariants, and no assert line has values at entry.
pub record IsFittedContract (w : Whole) (rank : ℕ) (x : Contract) : Type 0 where
  pub place : IsAtPlace w.program.machine.narrow x.at
  pub once : (other : ℕ) (y : Contract) → slice_get w.contracts other ≡ Some y → x.at ≡ y.at → rank ≡ other
  pub registers : All (λ r. r < 32) x.registers
  pub flags : All (λ g. g < 4) x.flags
  pub no_invariants : w.invariants ≡ []
  pub of_now : (a : Assert) → Contains w.program.notes.asserts a → IsOfNow a.says

-- a row can stand at the address of its function, the numbers of its invariants rise, and its contracts are such
abbrev pub WholesAreFitted : Type 0
WholesAreFitted =
    (o : Options) (file text : List ℕ) (w : Whole) → IsFrameFound o file text w →
    IsAtPlace w.program.machine.narrow w.program.entry × IsStrictlyIncreasing w.invariants
    × ((rank : ℕ) (x : Contract) → slice_get w.contracts rank ≡ Some x → IsFittedContract w rank x)

-- the frame of a rank has the name by which reports call it
abbrev pub FramesAreNamed : Type 0
FramesAreNamed =
    (o : Options) (file text : List ℕ) (w : Whole) → IsFrameFound o file text w → (rank : ℕ) → rank ≤ last_rank w → rank_named w (name_of w rank) ≡ rank

-- the symbols that are declared for the answer of an outside solver to be read are those that the scripts of the frame's questions declare
abbrev pub DeclaredAreOfScripts : Type 0
DeclaredAreOfScripts =
    (f : Frame) (layout : Layout) (points : List Point) → map (λ d. d.name) (frame_declared f layout points) ≡ frame_symbols_of f layout points

-- the points of a frame have one order in scripts
abbrev pub OneFrameNumbering : Type 0
OneFrameNumbering = (f : Frame) (k : ℕ) (xs ys : List Point) → AreFrameNumbered f k xs → AreFrameNumbered f k ys → xs ≡ ys
