-- What commands answer to notes that may have invariants or contracts. Notes with neither are answered as a program's.
use Rattle.std.specs.Prelude.{ℕ, ◌≡◌, ◌≤◌, ◌<◌, Bool, false, ◌==◌, ◌&&◌, if◌then◌else◌, List, [], ◌∷◌, Option, Some, None, is_some, length, slice_get, codes}
use Rattle.std.specs.List.{list_any}
use Rattle.std.specs.Str.{bytes_eq}
use Rattle.word_spec.specs.Texts.{line}
use Rattle.word_spec.specs.Tokens.{Token, NameToken, tokens_of, is_digit, number_length, number_value}
use Rattle.clause_spec.specs.Checks.{text_limit}
use Rattle.machine_spec.specs.StateText.{Layout}
use Rattle.call_spec.specs.Framed as framed
use Rattle.call_spec.specs.Calls as calls
use Rattle.call_spec.specs.Calls.{Options, Question, program_question, Budget, Answer, WithCalls, evidence_over, plain_answer}
use Rattle.bilv_spec.specs.Files.{machine_of, IsFunctionAt}
use Rattle.bilv_spec.specs.Answers.{IsReported, budget_text}
use Rattle.bilv_spec.specs.Certified.{IsCertified}
use Rattle.bilv_spec.specs.Scripts.{IsScriptAnswer}
use Rattle.frame_spec.specs.Frames.{Contract, contract_at}
use Rattle.frame_spec.specs.FrameVerdict.{Whole}
use Rattle.frame_spec.specs.FrameCertified.{IsFrameCertified}
use Rattle.frame_spec.specs.FrameScripts.{IsFrameScriptAnswer}
use Rattle.frame_spec.specs.FrameReports.{last_rank, Named, ByEvent, ByTurn, Report, HoldsReport, PartialReport, VacuousReport, NamedReport, NotInductiveReport, UnprovedReport, PointsReport, SizeReport, ConflictsReport, Evidence, ShownBy, IsRightReport}
use Rattle.frame_texts_spec.specs.FrameTexts.{FramedEnding, FramedFails, FramedTurns, NotInductiveBy, framed_printed}
use Rattle.frame_texts_spec.specs.FrameReplays.{TellsReturns}
use Rattle.frame_texts_spec.specs.CallTexts.{FrameName, EntryFrame, ContractFrame, CallEnding, UnprovedBy, UnprovedTurns, call_printed}
use Rattle.frame_texts_spec.specs.CallReplays.{rank_at, changes_of, call_replay_answer}
use Rattle.notes_spec.specs.Scopes.{Dialect, Plain, Framed, in_dialect}
use Rattle.notes_spec.specs.NotesGrammar.{lines_of}
use Rattle.notes_spec.specs.FrameNotes.{FrameNotes, IsFrameText, whole_of}
use Rattle.notes_spec.specs.Programs.{vocabulary_of}
use Rattle.notes_spec.specs.Verified.{IsAccepted, AreNotesRefusedIn, notes_limit}

-- the words with which lines of invariants begin, and lines of contracts
abbrev pub invariant_words : List (List ℕ)
invariant_words = codes "invariant" ∷ []

abbrev pub contract_words : List (List ℕ)
contract_words = codes "needs" ∷ codes "gives" ∷ codes "modifies" ∷ codes "writes" ∷ []

-- a line begins with one of some words
abbrev pub begins_line : (words : List (List ℕ)) → List Token → Bool
begins_line words (NameToken w ∷ rest) = list_any (bytes_eq w) words
begins_line words other = false

-- some line of a text does
abbrev pub has_line : (words : List (List ℕ)) → (text : List ℕ) → Bool
has_line words text = list_any (λ l. begins_line words (tokens_of l)) (lines_of text)

-- the dialect by whether there are lines of invariants and of contracts
abbrev pub dialect_by : (has_invariant has_contract : Bool) → Dialect
dialect_by false false = Plain
dialect_by has_invariant has_contract = Framed

-- The dialect in which a text is read: with lines of invariants and of contracts where it has one of either. A text with both is read, and refused as mixed.
abbrev pub dialect_for : (text : List ℕ) → Dialect
dialect_for text = dialect_by (has_line invariant_words text) (has_line contract_words text)

-- the file and the notes of a text in a dialect, with their invariants and contracts, are this
abbrev pub IsWholeIn : Dialect → Options → (file text : List ℕ) → Whole → Type 0
IsWholeIn d o file text w =
    (notes : FrameNotes) × (entry : ℕ) × IsFrameText (in_dialect d (vocabulary_of o file)) text notes
    × IsFunctionAt (machine_of o file).narrow file notes.notes.entry entry × (w ≡ whole_of (machine_of o file) file notes entry)

abbrev pub IsWhole : Options → (file text : List ℕ) → Whole → Type 0
IsWhole o file text w = IsWholeIn (dialect_for text) o file text w

-- what an accepted file and accepted notes in a dialect are
abbrev pub IsFrameFoundIn : Dialect → Options → (file text : List ℕ) → Whole → Type 0
IsFrameFoundIn d o file text w = IsAccepted file × (length text ≤ notes_limit) × IsWholeIn d o file text w

abbrev pub IsFrameFound : Options → (file text : List ℕ) → Whole → Type 0
IsFrameFound o file text w = IsFrameFoundIn (dialect_for text) o file text w

-- Notes in a dialect over an accepted file are refused, or have a function that is answered by what comes next.
pub data AfterFramesIn (d : Dialect) (o : Options) (file text : List ℕ) (Next : Whole → Answer → Type 0) (a : Answer) : Type 0 where
  frames_refused : (written : List ℕ) → AreNotesRefusedIn d o file text written → a ≡ plain_answer 5 written → AfterFramesIn d o file text Next a
  frames_found : (w : Whole) → IsFrameFoundIn d o file text w → Next w a → AfterFramesIn d o file text Next a

abbrev pub AfterFrames : Options → (file text : List ℕ) → (Next : Whole → Answer → Type 0) → Answer → Type 0
AfterFrames o file text = AfterFramesIn (dialect_for text) o file text

-- what is due to notes without invariants, and to notes with one
abbrev pub ByInvariants : (invariants : List ℕ) → (plain framed : Type 0) → Type 0
ByInvariants [] plain framed = plain
ByInvariants (n ∷ rest) plain framed = framed

-- what is due to notes with neither invariants nor contracts, and to notes with one of them
abbrev pub ByFrames : (invariants : List ℕ) → (contracts : List Contract) → (plain framed : Type 0) → Type 0
ByFrames [] [] plain framed = plain
ByFrames [] (x ∷ rest) plain framed = framed
ByFrames (n ∷ rest) contracts plain framed = framed

-- the status of a report over frames
abbrev pub frame_status : Report → ℕ
frame_status HoldsReport = 0
frame_status PartialReport = 0
frame_status VacuousReport = 0
frame_status (NamedReport (ByEvent e at step)) = 1
frame_status (NotInductiveReport e at step) = 1
frame_status (UnprovedReport rank (ByEvent e at step)) = 1
frame_status other = 3

-- the name of the frame of a rank: the address of its contract, or that it is the entry's
abbrev pub name_by : Option Contract → FrameName
name_by None = EntryFrame
name_by (Some x) = ContractFrame x.at

abbrev pub name_of : Whole → (rank : ℕ) → FrameName
name_of w rank = name_by (slice_get w.contracts rank)

-- the ending for which a frame is not proved
abbrev pub unproved_ending : FrameName → Budget → Named → CallEnding
unproved_ending f b (ByEvent event at step) = UnprovedBy f event at step
unproved_ending f b (ByTurn at step) = UnprovedTurns f b.unroll at step

-- the text of an ending and what is shown of its segment; where nothing is shown there is none
abbrev pub shown_text : Layout → FramedEnding → Evidence → List ℕ
shown_text layout named (ShownBy s) = framed_printed layout (record { named = named; start = s.start; head = s.head })
shown_text layout named other = []

-- so with a block for each contract step that is shown
abbrev pub called_text : Whole → Layout → CallEnding → Evidence → List ℕ
called_text w layout named (ShownBy s) =
    call_printed layout (changes_of w) (record { named = named; start = s.start; head = s.head; calls = s.calls })
called_text w layout named other = []

-- The text of a report over frames. No contract step is shown but of a frame that is not proved.
abbrev pub frame_report_text : Whole → Layout → Budget → Report → Evidence → List ℕ
frame_report_text w layout b HoldsReport e = line (codes "holds")
frame_report_text w layout b PartialReport e = line (codes "holds partially")
frame_report_text w layout b VacuousReport e = line (codes "vacuous")
frame_report_text w layout b (NamedReport (ByEvent event at step)) e = shown_text layout (FramedFails event at step) e
frame_report_text w layout b (NamedReport (ByTurn at step)) e = shown_text layout (FramedTurns b.unroll at step) e
frame_report_text w layout b (NotInductiveReport event at step) e = shown_text layout (NotInductiveBy event at step) e
frame_report_text w layout b (UnprovedReport rank n) e = called_text w layout (unproved_ending (name_of w rank) b n) e
frame_report_text w layout b PointsReport e = budget_text (codes "points") b.points
frame_report_text w layout b SizeReport e = budget_text (codes "size") b.size
frame_report_text w layout b ConflictsReport e = budget_text (codes "conflicts") b.conflicts

-- the rank of the frame that a report is about: that of the entry, but where it says of another one that it is not proved
abbrev pub rank_of : Whole → Report → ℕ
rank_of w (UnprovedReport rank n) = rank
rank_of w other = last_rank w

-- What shows a report over frames. A frame that is not proved is shown with its rank and its contract steps, also where it makes none.
abbrev pub report_evidence : Whole → Report → Evidence → calls.Evidence
report_evidence w (UnprovedReport rank n) (ShownBy s) = WithCalls rank s.start s.calls
report_evidence w report e = evidence_over (rank_of w report) e

-- the answer of a report over frames
abbrev pub frame_report_answer : Whole → Layout → Budget → Report → Evidence → Answer
frame_report_answer w layout b report e =
    record { status = frame_status report; text = frame_report_text w layout b report e; evidence = report_evidence w report e }

-- the answer is that of a right report over frames
abbrev pub IsFrameReported : Whole → Layout → Budget → Answer → Type 0
IsFrameReported w layout b a =
    (report : Report) × (e : Evidence) × IsRightReport w layout b report e × (a ≡ frame_report_answer w layout b report e)

-- the answer of the command that verifies
abbrev pub IsVerifiedWhole : Layout → Budget → Whole → Answer → Type 0
IsVerifiedWhole layout b w a = ByFrames w.invariants w.contracts (IsReported w.program layout b a) (IsFrameReported w layout b a)

-- The answer to a report over frames: it is too long, or it is judged by a test that tells the addresses to which calls return.
pub data IsFrameReplayed (w : Whole) (layout : Layout) (report : List ℕ) (a : Answer) : Type 0 where
  too_long : text_limit < length report → a ≡ plain_answer 9 (line (codes "state: TooLarge")) → IsFrameReplayed w layout report a
  judged : (returns : ℕ → Bool) → TellsReturns w.program returns → a ≡ call_replay_answer w returns layout report → IsFrameReplayed w layout report a

-- The answer of the command that replays a report. Without invariants no head part is lawful, and no address to which a call returns is asked for. Without
-- contracts no block is, and no frame has an address.
abbrev pub IsReplayedWhole : Layout → (report : List ℕ) → Whole → Answer → Type 0
IsReplayedWhole layout report w a =
    ByInvariants w.invariants (a ≡ call_replay_answer w (λ x. false) layout report) (IsFrameReplayed w layout report a)

-- what is due to a question of a program about notes with neither invariants nor contracts, and to each other question
abbrev pub ByQuestion : (invariants : List ℕ) → (contracts : List Contract) → Option Question → (plain : Question → Type 0) → (framed : Type 0) → Type 0
ByQuestion [] [] (Some question) plain framed = plain question
ByQuestion [] [] None plain framed = framed
ByQuestion [] (x ∷ rest) question plain framed = framed
ByQuestion (n ∷ rest) contracts question plain framed = framed

-- the number that a word is as a whole, in the form that numbers have in notes
abbrev pub begins_with_digit : List ℕ → Bool
begins_with_digit [] = false
begins_with_digit (b ∷ rest) = is_digit b

abbrev pub number_word : List ℕ → Option ℕ
number_word w = if begins_with_digit w && (number_length w == length w) then Some (number_value w) else None

-- the rank of the frame that is asked about: that of the entry where no word names one, or that of the contract whose address the word is
abbrev pub contract_rank : List Contract → Option ℕ → Option ℕ
contract_rank contracts None = None
contract_rank contracts (Some a) = if is_some (contract_at contracts a) then Some (rank_at contracts a) else None

abbrev pub asked_rank : Whole → (frame : Option (List ℕ)) → Option ℕ
asked_rank w None = Some (last_rank w)
asked_rank w (Some word) = contract_rank w.contracts (number_word word)

-- the answer where no frame has a name, and what is due to the frame of a rank
abbrev pub AfterFrame : Option ℕ → (Next : ℕ → Type 0) → Answer → Type 0
AfterFrame None Next a = a ≡ plain_answer 5 (line (codes "notes: NoFrame"))
AfterFrame (Some rank) Next a = Next rank

-- the answer of the command that certifies a question of a frame
abbrev pub IsCertifiedWhole : Budget → (frame : Option (List ℕ)) → framed.Question → Whole → Answer → Type 0
IsCertifiedWhole b frame question w a =
    AfterFrame (asked_rank w frame)
    (λ rank. ByQuestion w.invariants w.contracts (program_question question) (λ kind. IsCertified w.program b kind a.status a.text a.evidence)
    (IsFrameCertified w rank b question a.status a.text a.evidence)) a

-- the answer of the command that prints the script of a question of a frame
abbrev pub IsScriptWhole : Layout → Budget → (frame : Option (List ℕ)) → framed.Question → Whole → Answer → Type 0
IsScriptWhole layout b frame question w a =
    AfterFrame (asked_rank w frame)
    (λ rank. ByQuestion w.invariants w.contracts (program_question question) (λ kind. IsScriptAnswer w.program layout b kind a)
    (IsFrameScriptAnswer w rank layout b question a)) a
