-- What a question of a frame comes to.
use Rattle.std.specs.Prelude.{ℕ, ◌≡◌, ◌≤◌, ◌<◌, ◌+◌, ◌^◌, true, ◌&&◌, nat_eq, nat_lt, List, [], Some, Contains, length}
use Rattle.std.specs.List.{list_any}
use Rattle.word_spec.specs.Words.{word}
use Rattle.machine_spec.specs.StateText.{Layout, IsWritten, last_step, start_of}
use Rattle.bilv_spec.specs.Answers.{known_byte}
use Rattle.bilv_spec.specs.PointLaws.{HasLawfulRows, ReadsMemory}
use Rattle.bilv_spec.specs.Points.{is_known_at}
use Rattle.bilv_spec.specs.Run.{Place}
use Rattle.bilv_spec.specs.Verdict.{IsEntryState}
use Rattle.frame_spec.specs.Frames.{Contract, Frame, contract_at, is_head}
use Rattle.frame_spec.specs.FramePoints.{AtEntry, AtHead, has_heads}
use Rattle.frame_spec.specs.FrameQuestions.{Question, EntryQuestion, FailQuestion, StepQuestion, TurnQuestion, asks_head, Reading, IsTrueOver}
use Rattle.frame_spec.specs.FrameReports.{IsShown, Refutes, Shown, Spends, WrittenCall, flag_in, shown_start}
use Rattle.frame_spec.specs.FrameRuns.{Calling, Start, run}
use Rattle.frame_spec.specs.FrameUnrolling.{IsUnrolling}
use Rattle.frame_spec.specs.FrameVerdict.{IsStart, RunFails, RunTurns, Whole}
use Rattle.frame_spec.specs.FrameWalk.{UnrolledProgram}
use Rattle.frame_laws.specs.RunOfFrame.{IsAmong}
use Rattle.term_spec.specs.WalkQuestions.{is_asked}
use Rattle.frame_terms.specs.FrameStarts.{IsWrittenAnchor, shown_of}
use Rattle.cnf_form.specs.Views.{proof_of}
use Rattle.start_value.specs.Starts.{layout_of, written_of}
use Rattle.question_form.specs.declared.unrolled.Unrolled.{Unrolled}
use Rattle.question_form.specs.FrameViews.{anchor_at, frame_unrolled_of}
use Rattle.frame_start.specs.declared.meaning.Segments.{Segments}
use Rattle.frame_start.specs.Segments.{calls_at, choices_at, written_parts}
use Rattle.frame_rounds.specs.declared.answers.FrameAnswered.{FrameAnswered}
use Rattle.frame_rounds.specs.declared.answers.FrameAnswered.TheVariants.{Sat, Refuted, Spent}

-- The contracts that a frame steps over change no registers and flags but those of its unrolled frame, which are below 32.
pub record AreFitted (f : Frame) (u : UnrolledProgram) : Type 0 where
  pub registers : (a n : ℕ) (x : Contract) → contract_at f.stepped a ≡ Some x → Contains x.registers n → list_any (nat_eq n) u.registers ≡ true
  pub flags : (a n : ℕ) (x : Contract) → contract_at f.stepped a ≡ Some x → Contains x.flags n → nat_lt n u.flags ≡ true
  pub low : (a n : ℕ) (x : Contract) → contract_at f.stepped a ≡ Some x → list_any (nat_eq n) u.registers ≡ true → n < 32

-- The unrolled frame is that of a frame, over the form of its states, in which the steps of its points can be written. Heads are addresses that a state can be
-- at.
pub record IsFrameGround (f : Frame) (contracts : List Contract) (k : ℕ) (layout : Layout) (u : Unrolled) : Type 0 where
  pub lawful : HasLawfulRows f.program
  pub reads : ReadsMemory f.program
  pub low : (a : ℕ) → is_head f a ≡ true → a < 2 ^ 32
  pub among : IsAmong f contracts
  pub fits : AreFitted f (frame_unrolled_of u)
  pub unrolling : IsUnrolling f contracts k (frame_unrolled_of u)
  pub heads : u.heads ≡ has_heads f
  pub form : layout_of u.form ≡ layout
  pub steps : length (frame_unrolled_of u).points ≤ last_step + 1

-- what is shown of the segment of the root of a number
abbrev pub shown_at : Unrolled → Segments → ℕ → Shown
shown_at u s i =
    shown_of (written_parts s.parts) (anchor_at u i) (choices_at s.choices.items i) (calls_at (frame_unrolled_of u) s.parts s.calls.items i)

-- notes have the contracts that a frame steps over
abbrev pub HasStepped : Frame → List Contract → Type 0
HasStepped f contracts = (a : ℕ) (x : Contract) → contract_at f.stepped a ≡ Some x → contract_at contracts a ≡ Some x

-- What is shown can be written, and is a start whose run ends like this, whatever the notes are that have the contracts that the frame steps over.
abbrev pub ShowsStart : Frame → ℕ → Layout → (Frame → ℕ → Start → Type 0) → Shown → Type 0
ShowsStart f k layout Ends s =
    (w : Whole) → HasStepped f w.contracts → IsShown w f layout s × IsStart f k (shown_start w f layout s) × Ends f k (shown_start w f layout s)

-- What the contract step at a place is given is among what is shown, by its number: for the contract there, with flags that the contract may change.
pub record HasCall (f : Frame) (c : Place) (n : ℕ) (calls : List WrittenCall) : Type 0 where
  pub call : WrittenCall
  pub listed : Contains calls call
  pub step : call.step ≡ n
  pub at : call.at ≡ c.state.pc
  pub flags : (x : Contract) → contract_at f.stepped c.state.pc ≡ Some x → (i : ℕ) → flag_in call.flags i ≡ 1 → list_any (nat_eq i) x.flags ≡ true

-- so each contract step that a run makes
abbrev pub HasCalls : Frame → ℕ → Start → List WrittenCall → Type 0
HasCalls f k start calls = (steps turns n : ℕ) (c : Place) → run f k start steps ≡ Calling turns n c → HasCall f c n calls

-- the segment of the root of a number begins at a head
abbrev pub IsHeadRoot : Unrolled → ℕ → Type 0
IsHeadRoot u i = (i < length u.roots.items) × ((stack : List ℕ) × (a : ℕ) × (anchor_at u i ≡ AtHead stack a))

-- What is shown makes the question true: the entry is an entry state; the entry's segment, that of the first root, has an event; that of some root at a head has
-- one; that of some root makes one backward transfer too many.
abbrev pub ShowsQuestion : Frame → ℕ → Layout → Unrolled → Segments → Question → Type 0
ShowsQuestion f k layout u s EntryQuestion =
    IsWritten layout (is_known_at f.program) (written_of s.parts.entry)
    × IsEntryState f.program (start_of layout f.program.entry (λ a. known_byte f.program (word 32 a)) (written_of s.parts.entry)).state
ShowsQuestion f k layout u s FailQuestion = (anchor_at u 0 ≡ AtEntry) × ShowsStart f k layout RunFails (shown_at u s 0)
ShowsQuestion f k layout u s StepQuestion = (i : ℕ) × IsHeadRoot u i × ShowsStart f k layout RunFails (shown_at u s i)
ShowsQuestion f k layout u s TurnQuestion = (i : ℕ) × (i < length u.roots.items) × ShowsStart f k layout RunTurns (shown_at u s i)

-- The segments are shown: each root that can be has its choices and its contract steps, which there are only where contracts are stepped over; those of the entry
-- have each contract step that their run makes; and what is shown makes the question true.
pub record AreSegments (f : Frame) (k : ℕ) (layout : Layout) (question : Question) (u : Unrolled) (s : Segments) : Type 0 where
  pub count : length s.choices.items ≡ length u.roots.items
  pub calls : length s.calls.items ≡ length u.roots.items
  pub shown : (w : Whole) → HasStepped f w.contracts → (i : ℕ) → i < length u.roots.items →
      IsWrittenAnchor (has_heads f && asks_head question) (anchor_at u i) → IsShown w f layout (shown_at u s i)
  pub none : f.stepped ≡ [] → (i : ℕ) → i < length u.roots.items → IsWrittenAnchor (has_heads f && asks_head question) (anchor_at u i) →
      calls_at (frame_unrolled_of u) s.parts s.calls.items i ≡ []
  pub listed : (w : Whole) → HasStepped f w.contracts → (i : ℕ) → i < length u.roots.items → anchor_at u i ≡ AtEntry →
      HasCalls f k (shown_start w f layout (shown_at u s i)) (calls_at (frame_unrolled_of u) s.parts s.calls.items i)
  pub shows : ShowsQuestion f k layout u s question

-- A question is answered: by segments that show it; by a refutation; or by a log that spends the conflicts.
abbrev pub IsFrameAnswered : Frame → ℕ → Layout → Question → Unrolled → (conflicts : ℕ) → FrameAnswered → Type 0
IsFrameAnswered f k layout question u conflicts (Sat s) = AreSegments f k layout question u s
IsFrameAnswered f k layout question u conflicts (Refuted proof) = Refutes f k question (proof_of proof)
IsFrameAnswered f k layout question u conflicts (Spent proof) = Spends f k question conflicts (proof_of proof)

-- it is the answer for every frame of which the unrolled frame is
abbrev pub AnswersFrame : Unrolled → Question → (conflicts : ℕ) → FrameAnswered → Type 0
AnswersFrame u question conflicts a =
    (f : Frame) (contracts : List Contract) (k : ℕ) (layout : Layout) → IsFrameGround f contracts k layout u →
    IsFrameAnswered f k layout question u conflicts a

-- where a question is refuted over the bytes that were asked, no reading that has those makes it true
abbrev pub RulesOut : Unrolled → Question → (added : List ℕ) → FrameAnswered → Type 0
RulesOut u question added (Refuted proof) =
    (f : Frame) (contracts : List Contract) (k : ℕ) (layout : Layout) → IsFrameGround f contracts k layout u → (r : Reading) →
    ¬ IsTrueOver f (is_asked added (frame_unrolled_of u).literals) k r question
RulesOut u question added (Sat s) = Unit {0}
RulesOut u question added (Spent proof) = Unit {0}
