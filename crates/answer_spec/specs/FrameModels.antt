-- What is answered to an outside solver's answer where notes may have invariants or contracts. Of their questions that of entry states is taken alone, of the
-- frame that is asked about: of other questions notes with such a line are refused at the first one. No command answers so yet.
use Rattle.std.specs.Prelude.{ℕ, ◌≡◌, ◌≢◌, ◌≤◌, ◌<◌, ◌+◌, ◌-◌, ◌^◌, ◌↔◌, Bool, true, false, if◌then◌else◌, List, [], ◌∷◌, ◌++◌, Option, Some, None, codes, length, map, slice_index, slice_index_or, Contains}
use Rattle.word_spec.specs.State.{State, IsState, Written}
use Rattle.word_spec.specs.Texts.{line, spaced, number_text}
use Rattle.word_spec.specs.Words.{bit_at}
use Rattle.clause_spec.specs.Checks.{text_limit}
use Rattle.machine_spec.specs.StateText.{Layout, IsWritten, block_text}
use Rattle.call_spec.specs.Framed as framed
use Rattle.call_spec.specs.Calls.{Options, Budget, Answer, Count, RunOf, Surroundings, AfterRead, plain_answer, program_question}
use Rattle.bilv_spec.specs.Answers.{budget_text}
use Rattle.bilv_spec.specs.Points.{is_known_at}
use Rattle.bilv_spec.specs.Run.{Program}
use Rattle.bilv_spec.specs.Verdict.{IsEntryState}
use Rattle.frame_spec.specs.Frames.{Contract, Frame, contract_at}
use Rattle.frame_spec.specs.FramePoints.{Point, has_heads}
use Rattle.frame_spec.specs.FrameReports.{HasMore, IsWholePrice, IsWithin}
use Rattle.frame_spec.specs.FrameScripts.{AreFrameNumbered, changed_flags, changed_registers, frame_drawn_names, of_given, of_head, writes_some, written_memory}
use Rattle.frame_spec.specs.FrameVerdict.{Whole, frame_of}
use Rattle.model_spec.specs.ModelText.{Declared, Definition, IsAnswer, IsModelFault, Memories, ModelFault, Words}
use Rattle.model_spec.specs.Models.{AfterBudgets, IsAskedModelAnswer, given, memory_of, model_fault_words, word_of}
use Rattle.model_spec.specs.Reads.{line_reads}
use Rattle.notes_spec.specs.Scopes.{Dialect, Paired}
use Rattle.answer_spec.specs.FrameAnswers.{AfterFrame, AfterFramesIn, ByFrames, asked_rank, dialect_for}

-- The dialect in which notes are read for a question. In that of other questions than of entry states no text has invariants or contracts.
abbrev pub dialect_asked : framed.Question → (text : List ℕ) → Dialect
dialect_asked framed.EntryQuestion text = dialect_for text
dialect_asked other text = Paired

-- notes are refused as they are read for a question, or are what is answered by what comes next
abbrev pub AfterAsked : Options → (file text : List ℕ) → framed.Question → (Next : Whole → Answer → Type 0) → Answer → Type 0
AfterAsked o file text question = AfterFramesIn (dialect_asked question text) o file text

-- what is answered where the budgets, which are over all frames, are met, and else which of them is exceeded
pub data AfterFrameBudgets (w : Whole) (b : Budget) (Next : Answer → Type 0) (a : Answer) : Type 0 where
  points : HasMore w b.unroll b.points → a ≡ record { status = 3; text = budget_text (codes "points") b.points; evidence = Count (b.points + 1) } →
      AfterFrameBudgets w b Next a
  size : (price : ℕ) → (¬ HasMore w b.unroll b.points) → IsWholePrice w b.unroll price → b.size < price →
      a ≡ record { status = 3; text = budget_text (codes "size") b.size; evidence = Count price } → AfterFrameBudgets w b Next a
  within : IsWithin w b → Next a → AfterFrameBudgets w b Next a

-- ---- the symbols that the scripts of a frame's questions declare, with their sorts

abbrev pub words_named : (width : ℕ) → List (List ℕ) → List Declared
words_named n names = map (λ w. record { name = w; sort = Words n }) names

abbrev pub memories_named : List (List ℕ) → List Declared
memories_named names = map (λ w. record { name = w; sort = Memories }) names

-- those of the entry state
abbrev pub entry_declared : Layout → List Declared
entry_declared layout = words_named 32 layout.registers ++ (words_named 1 layout.flags ++ memories_named (codes "mem" ∷ []))

-- those of the head state, where there is a head
abbrev pub head_declared : Layout → Bool → List Declared
head_declared layout false = []
head_declared layout true =
    words_named 32 (map of_head layout.registers) ++ (words_named 1 (map of_head layout.flags) ++ memories_named (of_head (codes "mem") ∷ []))

-- those of what the step of a contract is given, at the point of a number
abbrev pub given_declared : Layout → (number : ℕ) → Option Contract → List Declared
given_declared layout n None = []
given_declared layout n (Some x) =
    words_named 32 (map (of_given n) (changed_registers x.registers layout.first layout.registers))
    ++ (words_named 1 (map (of_given n) (changed_flags x.flags layout.flags)) ++ memories_named (map (of_given n) (written_memory (writes_some x.writes))))

-- so of the contract points, from a number on
abbrev pub all_given_declared : Frame → Layout → (number : ℕ) → List Point → List Declared
all_given_declared f layout n [] = []
all_given_declared f layout n (q ∷ rest) =
    (if q.contract then given_declared layout n (contract_at f.stepped q.at) else []) ++ all_given_declared f layout (n + 1) rest

-- all of them, whatever the question is
abbrev pub frame_declared : Frame → Layout → List Point → List Declared
frame_declared f layout numbered =
    entry_declared layout ++ (head_declared layout (has_heads f) ++ (words_named 2 (frame_drawn_names f 0 numbered) ++ all_given_declared f layout 0 numbered))

-- ---- the answer

-- the state of an answer at the entry; of its head state and its contract steps nothing is asked
pub record IsStateOf (p : Program) (layout : Layout) (ds : List Definition) (s : State) : Type 0 where
  pub state : IsState s
  pub pc : s.pc ≡ p.entry
  pub regs : (i : ℕ) → i < length layout.registers → s.regs (layout.first + i) ≡ word_of (given ds (slice_index_or layout.registers i []))
  pub flags : (f : ℕ) → f < length layout.flags → s.flags f ≡ word_of (given ds (slice_index_or layout.flags (length layout.flags - 1 - f) []))
  pub mem : (a : ℕ) → a < 2 ^ 32 → s.mem a ≡ memory_of p (given ds (codes "mem")) a

-- The start that is printed: its registers and flags, its bytes that the lines of the frame's entry read, are not 0 and are not the file's, and no choices.
pub record IsPrintedEntry (p : Program) (layout : Layout) (s : State) (w : Written) : Type 0 where
  pub written : IsWritten layout (is_known_at p) w
  pub regs : (i : ℕ) → i < length layout.registers → slice_index w.regs i ≡ s.regs (layout.first + i)
  pub flags : (f : ℕ) → f < length layout.flags → bit_at f w.flags ≡ s.flags f
  pub bytes : (a b : ℕ) → Contains w.bytes (a, b) ↔
      ((a < 2 ^ 32) × Contains (line_reads p.machine.endian p.notes.requires s s) a × (is_known_at p a ≡ false) × (b ≡ s.mem a) × (b ≢ 0))
  pub choices : w.choices ≡ []

-- what is answered to the text of an answer about the entry states of a frame, within the budgets
pub data IsEntryModelAnswer (f : Frame) (layout : Layout) (b : Budget) (text : List ℕ) (x : Answer) : Type 0 where
  large : text_limit < length text → x ≡ plain_answer 9 (line (codes "model: TooLarge")) → IsEntryModelAnswer f layout b text x
  refused : {points : List Point} (n : ℕ) (fault : ModelFault) → length text ≤ text_limit → AreFrameNumbered f b.unroll points →
      IsModelFault (frame_declared f layout points) text n fault →
      x ≡ plain_answer 9 (line (codes "model: line" ++ spaced (number_text n ∷ model_fault_words fault ∷ []))) → IsEntryModelAnswer f layout b text x
  untrue : {points : List Point} {ds : List Definition} (s : State) → length text ≤ text_limit → AreFrameNumbered f b.unroll points →
      IsAnswer (frame_declared f layout points) text ds → IsStateOf f.program layout ds s → ¬ IsEntryState f.program s →
      x ≡ plain_answer 9 (line (codes "model: false")) → IsEntryModelAnswer f layout b text x
  accepted : {points : List Point} {ds : List Definition} (s : State) (w : Written) → length text ≤ text_limit → AreFrameNumbered f b.unroll points →
      IsAnswer (frame_declared f layout points) text ds → IsStateOf f.program layout ds s → IsEntryState f.program s →
      IsPrintedEntry f.program layout s w →
      x ≡ record { status = 0; text = line (codes "accepted") ++ block_text layout w; evidence = RunOf w } → IsEntryModelAnswer f layout b text x

-- What is due to a question about notes with neither invariants nor contracts, and to that of entry states about notes with one of them. Other questions are
-- taken of the former alone.
abbrev pub ByAsked : framed.Question → (invariants : List ℕ) → (contracts : List Contract) → (plain framed : Type 0) → Type 0
ByAsked framed.EntryQuestion invariants contracts plain framed = ByFrames invariants contracts plain framed
ByAsked other invariants contracts plain framed = plain

-- The answer to an outside solver's answer to a question of a frame. The budgets are judged before that text is there, by what reads it.
abbrev pub IsModelBy : Layout → Budget → (frame : Option (List ℕ)) → framed.Question → (WithText : (List ℕ → Answer → Type 0) → Answer → Type 0) → Whole →
    Answer → Type 0
IsModelBy layout b frame question WithText w a =
    AfterFrame (asked_rank w frame)
    (λ rank. ByAsked question w.invariants w.contracts
    (AfterBudgets w.program b (WithText (IsAskedModelAnswer w.program layout b (program_question question))) a)
    (AfterFrameBudgets w b (WithText (IsEntryModelAnswer (frame_of w rank) layout b)) a)) a

-- where that answer is read from the file of a name, and where it is told
abbrev pub IsModelWhole : Surroundings → Layout → Budget → (frame : Option (List ℕ)) → framed.Question → (name : List ℕ) → Whole → Answer → Type 0
IsModelWhole s layout b frame question name w a = IsModelBy layout b frame question (AfterRead s name) w a

abbrev pub IsModelTold : Layout → Budget → (frame : Option (List ℕ)) → framed.Question → (answer : List ℕ) → Whole → Answer → Type 0
IsModelTold layout b frame question answer w a = IsModelBy layout b frame question (λ Next. Next answer) w a
