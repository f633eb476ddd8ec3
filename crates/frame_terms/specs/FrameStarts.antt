-- Starts of segments from values that satisfy the clauses of a question of a frame: the entry, a head and what contract steps are given as they are written, and
-- the choices and the contract steps of a segment by its steps.
use Rattle.std.specs.Prelude.{ℕ, zero, suc, ◌≡◌, ◌≤◌, ◌<◌, ◌+◌, ◌^◌, ◌⊎◌, Bool, true, false, ◌&&◌, nat_eq, if◌then◌else◌, List, [], Option, Some, None, length, map, filter, reverse, Contains, All, AllPairs}
use Rattle.std.specs.List.{list_any}
use Rattle.word_spec.specs.Words.{bit_at, word}
use Rattle.word_spec.specs.Memory.{Memory, byte_in}
use Rattle.word_spec.specs.State.{Written}
use Rattle.clause_spec.specs.Clauses.{Cnf, Satisfies}
use Rattle.machine_spec.specs.StateText.{Layout, AreRising, known_or, last_step, register_at}
use Rattle.bilv_spec.specs.Verdict.{IsEntryState}
use Rattle.bilv_spec.specs.PointLaws.{ReadsMemory}
use Rattle.walk_spec.specs.Unrolled.{byte_of_runs, is_in}
use Rattle.walk_spec.specs.Unrolling.{IsLaidOut}
use Rattle.frame_spec.specs.Frames.{Content, Contract, Frame, content_at, contract_at}
use Rattle.frame_spec.specs.FrameRuns.{Start, run}
use Rattle.frame_spec.specs.FramePoints.{Anchor, AtEntry, AtHead, IsAnchor, has_heads}
use Rattle.frame_spec.specs.FrameVerdict.{IsStart, RunFails, RunTurns, Whole}
use Rattle.frame_spec.specs.FrameQuestions.{Reading, IsReading, Question, EntryQuestion, FailQuestion, StepQuestion, TurnQuestion, asks_head, IsHeadPart, IsTrue, read_run}
use Rattle.frame_spec.specs.FrameWalk.{Action, Executes, Arrives, StepsOver, Gift, UnrolledProgram, Root, WalkIsAt, point_at, walk_of, is_assumed}
use Rattle.frame_spec.specs.FrameUnrolling.{IsRootOf, IsUnrolling}
use Rattle.frame_spec.specs.FrameReports.{Shown, WrittenCall, shown_start, value_in, IsShown}
use Rattle.term_spec.specs.Terms.{TermReading, InRange}
use Rattle.term_spec.specs.WalkQuestions.{QuestionTerm}
use Rattle.frame_terms.specs.PassiveFrames.{entry_part, head_part, gift_part, IsGiftAt, inputs_of}
use Rattle.frame_terms.specs.FrameCells.{BaseRead, Cells, AreFormed, IsRead, TellsCells, read_address}
use Rattle.frame_terms.specs.FrameClauseForm.{HasBits, input_list, TellsClauses}
use Rattle.frame_terms.specs.FrameLayers.{IsLayered}

-- a reading of terms has the bits of a valuation
pub record HasValues (u : UnrolledProgram) (heads : Bool) (c : Cells) (v : ℕ → Bool) (x : TermReading) : Type 0 where
  pub in_range : InRange x
  pub bits : HasBits (input_list u heads c) v x

-- the byte of the file that a part has at an address: the entry's each that is known, the head's each that is kept, and a gift's none
abbrev pub part_byte : UnrolledProgram → (part : ℕ) → ℕ → Option ℕ
part_byte u zero a = byte_of_runs u.known a
part_byte u (suc zero) a = if is_in u.kept a then byte_of_runs u.known a else None
part_byte u (suc (suc i)) a = None

-- the parts that are written: the entry's, the head's where the question speaks of head states, and gifts
abbrev pub IsWrittenPart : (of_head : Bool) → (part : ℕ) → Type 0
IsWrittenPart of_head zero = Unit {0}
IsWrittenPart of_head (suc zero) = of_head ≡ true
IsWrittenPart of_head (suc (suc i)) = Unit {0}

-- a base read of such a part has another byte than the part has of the file at its address
abbrev pub IsBroken : UnrolledProgram → (of_head : Bool) → Cells → TermReading → (at : ℕ) → Type 0
IsBroken u of_head c x a =
    (b : BaseRead) × (n : ℕ) × Contains c.reads b × IsWrittenPart of_head b.part × (read_address c x b.address ≡ a) × (part_byte u b.part a ≡ Some n)
    × ¬ (x.base b.part b.address ≡ n)

-- the memory of a written part: the bytes of the file, those that are written, and 0. It wraps its addresses.
abbrev pub part_memory : UnrolledProgram → (part : ℕ) → Written → Memory
part_memory u part w a = known_or (part_byte u part (word 32 a)) w.bytes a

-- the registers and the flags that a part has as it is written: all, and of a gift those that the contract may change
abbrev pub gift_registers : UnrolledProgram → Action → List ℕ
gift_registers u (Executes list) = []
gift_registers u Arrives = []
gift_registers u (StepsOver x) = filter (λ r. list_any (nat_eq r) x.registers) u.registers

abbrev pub part_registers : UnrolledProgram → (part : ℕ) → List ℕ
part_registers u zero = u.registers
part_registers u (suc zero) = u.registers
part_registers u (suc (suc i)) = gift_registers u (point_at u i).does

abbrev pub gives_flag : Action → ℕ → Bool
gives_flag (Executes list) f = false
gives_flag Arrives f = false
gives_flag (StepsOver x) f = list_any (nat_eq f) x.flags

abbrev pub part_flag : UnrolledProgram → TermReading → (part : ℕ) → ℕ → ℕ
part_flag u x zero f = x.flags entry_part f
part_flag u x (suc zero) f = x.flags head_part f
part_flag u x (suc (suc i)) f = if gives_flag (point_at u i).does f then x.flags (gift_part i) f else 0

-- what a written part has
abbrev pub written_content : Layout → UnrolledProgram → (part : ℕ) → Written → Content
written_content layout u part w = record { regs = register_at layout w.regs; flags = λ f. bit_at f w.flags; mem = part_memory u part w }

-- what a gift has that is written for a place: 0 in what is not written
abbrev pub gift_content : UnrolledProgram → (place : ℕ) → Written → Content
gift_content u i w = record {
  regs = value_in (part_registers u (gift_part i)) w.regs;
  flags = λ f. bit_at f w.flags;
  mem = part_memory u (gift_part i) w;
}

-- The part of a reading is written: it has the registers and flags of the reading, and over the bytes of the file its memory gives each base read its byte. It
-- can be written, with bytes that are not 0 where the part has none of the file, in rising order; its choices are none.
pub record IsPart (u : UnrolledProgram) (c : Cells) (x : TermReading) (part : ℕ) (w : Written) : Type 0 where
  pub regs : w.regs ≡ map (x.regs part) (part_registers u part)
  pub flags : (f : ℕ) → f < u.flags → bit_at f w.flags ≡ part_flag u x part f
  pub flags_fit : w.flags < 2 ^ u.flags
  pub bytes : All (λ b. (b.0 < 2 ^ 32) × (1 ≤ b.1) × (b.1 ≤ 255)) w.bytes
  pub bytes_rise : AreRising w.bytes
  pub unknown : All (λ b. part_byte u part b.0 ≡ None) w.bytes
  pub gives : (j : ℕ) → IsRead c part j → x.base part j ≡ part_memory u part w (read_address c x j)
  pub choices : w.choices ≡ []

-- the parts as they are written: the entry's, the head's, and what is given at the contract point of each place
pub record WrittenParts : Type 0 where
  pub entry : Written
  pub head : Written
  pub gift : (place : ℕ) → Written

-- the parts of a reading; of_head: the question speaks of head states
pub record AreParts (u : UnrolledProgram) (of_head : Bool) (c : Cells) (x : TermReading) (p : WrittenParts) : Type 0 where
  pub at_entry : IsPart u c x entry_part p.entry
  pub at_head : of_head ≡ true → IsPart u c x head_part p.head
  pub at_gift : (i : ℕ) (g : Gift) → IsGiftAt u i g → IsPart u c x (gift_part i) (p.gift i)

-- the choice of a place, if its row reads one
abbrev pub place_choice : UnrolledProgram → TermReading → (place : ℕ) → ℕ
place_choice u x i = if (point_at u i).draws then x.choice i else 0

-- a reading of the frame that has the written parts, and the choices of a reading of terms
pub record IsReadingOfParts (u : UnrolledProgram) (of_head : Bool) (layout : Layout) (x : TermReading) (p : WrittenParts) (r : Reading) : Type 0 where
  pub reading : IsReading r
  pub state : r.state ≡ content_at (written_content layout u entry_part p.entry) u.entry
  pub at_head : of_head ≡ true → r.head ≡ written_content layout u head_part p.head
  pub at_gift : (i : ℕ) (g : Gift) → IsGiftAt u i g → r.given (point_at u i).point ≡ gift_content u i (p.gift i)
  pub choice : (i : ℕ) → i < length u.points → r.choice (point_at u i).point ≡ place_choice u x i

-- The choices of a root, by steps: where the walk from it is at a place after some points, that step has the choice of the place. They can be written: none is
-- 0, and their steps are below the number of points, in rising order.
pub record AreChoices (u : UnrolledProgram) (of_head : Bool) (layout : Layout) (x : TermReading) (p : WrittenParts) (root : Root)
    (choices : List (ℕ × ℕ)) : Type 0 where
  pub within : All (λ z. (z.0 < length u.points) × (1 ≤ z.1) × (z.1 ≤ 3)) choices
  pub rise : AreRising choices
  pub follows : (r : Reading) → IsReadingOfParts u of_head layout x p r → is_assumed u r root ≡ true → (step i : ℕ) (d : Content) →
      walk_of u r root step ≡ WalkIsAt i d → byte_in choices step ≡ place_choice u x i

-- the contract step of a number at the contract point of a place, which is given what is written for the place
abbrev pub call_of : UnrolledProgram → WrittenParts → (step place : ℕ) → WrittenCall
call_of u p n i = record {
  step = n;
  at = (point_at u i).point.at;
  regs = (p.gift i).regs;
  flags = (p.gift i).flags;
  bytes = (p.gift i).bytes;
}

-- a contract step of some contract point, whose number is below the number of points
abbrev pub IsCallOf : UnrolledProgram → WrittenParts → WrittenCall → Type 0
IsCallOf u p c = (i : ℕ) × (g : Gift) × IsGiftAt u i g × (c.step < length u.points) × (c ≡ call_of u p c.step i)

-- The contract steps of a root: where the walk from it is at a contract point after some points, that step is given what is written for its place. They stand in
-- the order of their steps.
pub record AreCalls (u : UnrolledProgram) (of_head : Bool) (layout : Layout) (x : TermReading) (p : WrittenParts) (root : Root) (calls : List WrittenCall) :
    Type 0 where
  pub within : All (IsCallOf u p) calls
  pub rise : AllPairs (λ a b. a.step < b.step) calls
  pub follows : (r : Reading) → IsReadingOfParts u of_head layout x p r → is_assumed u r root ≡ true → (step i : ℕ) (d : Content) (g : Gift) →
      walk_of u r root step ≡ WalkIsAt i d → IsGiftAt u i g → Contains calls (call_of u p step i)

-- The contracts that a text speaks of are those that the frame steps over, which change no registers but the frame's. A text has places for registers below 32.
pub record AreTold (w : Whole) (f : Frame) (u : UnrolledProgram) : Type 0 where
  pub contracts : (a : ℕ) (x : Contract) → contract_at f.stepped a ≡ Some x → contract_at w.contracts a ≡ Some x
  pub registers : (a n : ℕ) (x : Contract) → contract_at f.stepped a ≡ Some x → Contains x.registers n → list_any (nat_eq n) u.registers ≡ true
  pub low : (a n : ℕ) (x : Contract) → contract_at f.stepped a ≡ Some x → list_any (nat_eq n) u.registers ≡ true → n < 32

-- what is shown of the segment of an anchor
abbrev pub shown_of : WrittenParts → Anchor → (choices : List (ℕ × ℕ)) → (calls : List WrittenCall) → Shown
shown_of p AtEntry choices calls = record { start = record p.entry { choices = choices }; head = None; calls = calls }
shown_of p (AtHead stack a) choices calls = record {
  start = p.entry;
  head = Some (record { at = a; stack = reverse stack; start = record p.head { choices = choices } });
  calls = calls;
}

-- the anchor is one of those that can be shown
abbrev pub IsWrittenAnchor : (of_head : Bool) → Anchor → Type 0
IsWrittenAnchor of_head AtEntry = Unit {0}
IsWrittenAnchor of_head (AtHead stack a) = of_head ≡ true

-- a segment of a reading begins there: at the entry, or in the head part, which is one there
abbrev pub BeginsIn : Frame → Reading → Anchor → Type 0
BeginsIn f r AtEntry = Unit {0}
BeginsIn f r (AtHead stack a) = IsHeadPart f r a

-- What is shown of the segment of an anchor's root, with whatever choices and contract steps it has, is a start whose run ends like this.
abbrev pub ShownEnds : Frame → ℕ → UnrolledProgram → (of_head : Bool) → Layout → TermReading → WrittenParts → (Frame → ℕ → Start → Type 0) → Root → Anchor →
    Type 0
ShownEnds f k u of_head layout x p Ends root anchor =
    (w : Whole) → AreTold w f u → (choices : List (ℕ × ℕ)) → AreChoices u of_head layout x p root choices → (calls : List WrittenCall) →
    AreCalls u of_head layout x p root calls →
    IsStart f k (shown_start w f layout (shown_of p anchor choices calls)) × Ends f k (shown_start w f layout (shown_of p anchor choices calls))

abbrev pub ShownEndsAtEntry : Frame → ℕ → UnrolledProgram → (of_head : Bool) → Layout → TermReading → WrittenParts → (Frame → ℕ → Start → Type 0) → Type 0
ShownEndsAtEntry f k u of_head layout x p Ends = (root : Root) → IsRootOf f u root AtEntry → ShownEnds f k u of_head layout x p Ends root AtEntry

abbrev pub ShownEndsAtHead : Frame → ℕ → UnrolledProgram → (of_head : Bool) → Layout → TermReading → WrittenParts → (Frame → ℕ → Start → Type 0) → Type 0
ShownEndsAtHead f k u of_head layout x p Ends =
    (stack : List ℕ) × (a : ℕ) × (root : Root) × Contains u.roots root × IsRootOf f u root (AtHead stack a)
    × ShownEnds f k u of_head layout x p Ends root (AtHead stack a)

-- how the starts that are shown end where the question is true
abbrev pub ShownEndsBy : Frame → ℕ → UnrolledProgram → (of_head : Bool) → Layout → TermReading → WrittenParts → Question → Type 0
ShownEndsBy f k u of_head layout x p EntryQuestion = IsEntryState f.program (content_at (written_content layout u entry_part p.entry) f.program.entry)
ShownEndsBy f k u of_head layout x p FailQuestion = ShownEndsAtEntry f k u of_head layout x p RunFails
ShownEndsBy f k u of_head layout x p StepQuestion = ShownEndsAtHead f k u of_head layout x p RunFails
ShownEndsBy f k u of_head layout x p TurnQuestion =
    ShownEndsAtEntry f k u of_head layout x p RunTurns ⊎ ShownEndsAtHead f k u of_head layout x p RunTurns

-- What written parts are of: a reading of which the question is true; the run of what is shown of a segment is that of the reading, step by step; and so what
-- is shown ends as the question says.
pub record GiveStarts (f : Frame) (k : ℕ) (question : Question) (u : UnrolledProgram) (layout : Layout) (x : TermReading) (p : WrittenParts) : Type 0 where
  pub reading : Reading
  pub of : IsReadingOfParts u (has_heads f && asks_head question) layout x p reading
  pub is_true : IsTrue f k reading question
  pub runs : (w : Whole) → AreTold w f u → (anchor : Anchor) (root : Root) (choices : List (ℕ × ℕ)) (calls : List WrittenCall) → IsAnchor f k anchor →
      IsRootOf f u root anchor → IsWrittenAnchor (has_heads f && asks_head question) anchor → BeginsIn f reading anchor →
      AreChoices u (has_heads f && asks_head question) layout x p root choices → AreCalls u (has_heads f && asks_head question) layout x p root calls →
      (n : ℕ) → run f k (shown_start w f layout (shown_of p anchor choices calls)) n ≡ read_run f k reading anchor n
  pub ends : ShownEndsBy f k u (has_heads f && asks_head question) layout x p question

-- Values that satisfy the clauses, and parts that are theirs. Known bytes are bytes.
abbrev pub FrameValuesGiveStarts : Type 0
FrameValuesGiveStarts = (f : Frame) (contracts : List Contract) (k : ℕ) (question : Question) (asked : ℕ → Bool) (u : UnrolledProgram) (t : QuestionTerm)
    (c : Cells) → IsLayered f contracts k question asked u t c → ReadsMemory f.program → ((a b : ℕ) → byte_of_runs u.known a ≡ Some b → b < 256) →
    (layout : Layout) → IsLaidOut layout (inputs_of u) → (cnf : Cnf) → TellsClauses u (has_heads f) c cnf → (v : ℕ → Bool) → Satisfies v cnf.clauses →
    (x : TermReading) → HasValues u (has_heads f) c v x → (p : WrittenParts) → AreParts u (has_heads f && asks_head question) c x p →
    GiveStarts f k question u layout x p

-- what is shown of a segment can be written, where the steps of so many points can be
abbrev pub FrameStartsAreShown : Type 0
FrameStartsAreShown = (f : Frame) (contracts : List Contract) (k : ℕ) (u : UnrolledProgram) → IsUnrolling f contracts k u → (layout : Layout) →
    IsLaidOut layout (inputs_of u) → length u.points ≤ last_step + 1 → (of_head : Bool) (c : Cells) (x : TermReading) → InRange x → (p : WrittenParts) →
    AreParts u of_head c x p → (w : Whole) → AreTold w f u → (anchor : Anchor) (root : Root) (choices : List (ℕ × ℕ)) (calls : List WrittenCall) →
    IsWrittenAnchor of_head anchor → AreChoices u of_head layout x p root choices → AreCalls u of_head layout x p root calls →
    IsShown w f layout (shown_of p anchor choices calls)

-- Where there are such parts, no base read has another byte than its part has of the file.
abbrev pub FramePartsBreakNone : Type 0
FramePartsBreakNone = (u : UnrolledProgram) (heads of_head : Bool) (c : Cells) → AreFormed u heads c → (x : TermReading) → InRange x → (p : WrittenParts) →
    AreParts u of_head c x p → (a : ℕ) → ¬ IsBroken u of_head c x a

-- A byte of the file that a base read of satisfying values has not is one that was not asked: asking it too rules these values out.
abbrev pub FrameBrokenIsNew : Type 0
FrameBrokenIsNew = (u : UnrolledProgram) (heads of_head : Bool) (t : QuestionTerm) (asked : ℕ → Bool) (c : Cells) → TellsCells u heads of_head t asked c →
    (cnf : Cnf) → TellsClauses u heads c cnf → (v : ℕ → Bool) → Satisfies v cnf.clauses → (x : TermReading) → HasValues u heads c v x →
    (a : ℕ) → IsBroken u of_head c x a → asked a ≡ false
