-- The walk of a reading through an unrolled frame, from a root, is the segment of the reading from the root's anchor.
use Rattle.std.specs.Prelude.{ℕ, ◌≡◌, ◌≢◌, ◌<◌, ◌↔◌, ◌^◌, Bool, true, false, [], List, Some, None, Contains, length}
use Rattle.word_spec.specs.Words.{add}
use Rattle.word_spec.specs.State.{State, IsState}
use Rattle.machine_spec.specs.Machine.{IsAtPlace}
use Rattle.bilv_spec.specs.Run.{false_line}
use Rattle.bilv_spec.specs.Points.{is_known_at}
use Rattle.bilv_spec.specs.Questions.{IsEntryStateOver}
use Rattle.bilv_spec.specs.Verdict.{IsEntryState}
use Rattle.bilv_spec.specs.PointLaws.{HasLawfulRows}
use Rattle.walk_spec.specs.Unrolled.{is_in, byte_of_runs}
use Rattle.frame_spec.specs.Frames.{Content, Contract, Frame, is_head, contract_at}
use Rattle.frame_spec.specs.FrameRuns.{Run, Going, Arriving, Calling, Exited, Failed, Turned, Cut, Broken}
use Rattle.frame_spec.specs.FramePoints.{Anchor, AtEntry, AtHead, Point, IsAnchor, is_cut, has_heads}
use Rattle.frame_spec.specs.FrameQuestions.{Reading, IsReading, Question, EntryQuestion, FailQuestion, StepQuestion, TurnQuestion, asks_head, IsHeadPart, HeadAgrees, IsTrueOver, point_of, read_run}
use Rattle.frame_spec.specs.FrameVerdict.{Whole, frame_of}
use Rattle.frame_spec.specs.FrameWalk.{UnrolledProgram, Root, Walk, WalkIsAt, WalkArrives, WalkExits, WalkFails, WalkTurns, WalkIsCut, WalkBreaks, point_at, walk_of, is_assumed, IsRooted, swept}
use Rattle.frame_spec.specs.FrameUnrolling.{IsRead, IsCarriedOf, checks_at, IsRootOf, IsLiteralOf, IsUnrolling}
use Rattle.frame_spec.specs.FrameLaws.{HasPlaces}
use Rattle.frame_spec.specs.Theorems.{IsContracted}

-- The contract of a contract's frame is one of these; the frame is left by what the contract gives, in the place of ensure lines; and the machine has registers
-- and flags of which contracts can speak.
pub record IsOwnAmong (f : Frame) (contracts : List Contract) (x : Contract) : Type 0 where
  pub inside : Contains contracts x
  pub ensures : f.program.notes.ensures ≡ []
  pub registers : (r : ℕ) → f.program.machine.has_register r ≡ true → r < 32
  pub flags : (g : ℕ) → f.program.machine.has_flag g ≡ true → g < 4

-- A frame among frames with these contracts: what it steps over is among them, where rows stand at places, and so is its own contract.
pub record IsAmong (f : Frame) (contracts : List Contract) : Type 0 where
  pub stepped : (a : ℕ) (x : Contract) → contract_at f.stepped a ≡ Some x → contract_at contracts a ≡ Some x
  pub places : f.stepped ≢ [] → HasPlaces f.program
  pub own : (x : Contract) → f.own ≡ Some x → IsOwnAmong f contracts x

-- the frames of notes with contracts are
abbrev pub FramesAreAmong : Type 0
FramesAreAmong = (w : Whole) → IsContracted w → (rank : ℕ) → IsAmong (frame_of w rank) w.contracts

-- the bytes of the kept literals that the rows at points load are asked
abbrev pub AsksLiterals : Frame → (k : ℕ) → (ℕ → Bool) → Type 0
AsksLiterals f k asked = (a i : ℕ) → IsLiteralOf f k a → i < 4 → asked (add 32 a i) ≡ true

-- the walk stands at the place of a point, in a state but for flags that nothing reads from there on
abbrev pub IsAt : Frame → List Contract → UnrolledProgram → (place : ℕ) → Point → State → Content → Type 0
IsAt f contracts u i q s c =
    (i < length u.points) × ((point_at u i).point ≡ q) × IsCarriedOf (λ g. IsRead f.program contracts g s.pc) s c

-- The walk is where the segment of an anchor is, or has ended as the segment has. An entry that is a head has a place of its own, from which the segment
-- ends; behind every other arrival the walk has left its place.
abbrev pub IsSame : Frame → List Contract → UnrolledProgram → Anchor → Walk → Run → Type 0
IsSame f contracts u anchor (WalkIsAt i c) (Going turns n d) = IsAt f contracts u i (point_of anchor false turns d) d.state c
IsSame f contracts u anchor (WalkIsAt i c) (Calling turns n d) = IsAt f contracts u i (point_of anchor true turns d) d.state c
IsSame f contracts u anchor (WalkIsAt i c) (Arriving turns n d) =
    (is_cut f (point_of anchor false turns d) ≡ true) × IsAt f contracts u i (point_of anchor false turns d) d.state c
IsSame f contracts u anchor (WalkArrives at checks c) (Arriving turns n d) =
    (at ≡ d.state.pc) × (checks ≡ checks_at f d.state.pc) × IsCarriedOf (λ g. IsRead f.program contracts g d.state.pc) d.state c
IsSame f contracts u anchor WalkExits (Exited at n) = Unit {0}
IsSame f contracts u anchor (WalkFails e) (Failed v at n) = e ≡ v
IsSame f contracts u anchor WalkTurns (Turned at n) = Unit {0}
IsSame f contracts u anchor WalkIsCut (Cut at n) = Unit {0}
IsSame f contracts u anchor WalkBreaks (Broken line at n) = Unit {0}
IsSame f contracts u anchor w r = ⊥

-- where the segment of an anchor begins in the head part, that is one, with the kept bytes that are asked
abbrev pub BeginsAt : Frame → (asked : ℕ → Bool) → Reading → Anchor → Type 0
BeginsAt f asked r AtEntry = Unit {0}
BeginsAt f asked r (AtHead stack a) = IsHeadPart f r a × HeadAgrees f asked r StepQuestion

-- The walk of a reading from a root is the segment from its anchor, step by step, where the reading has the kept literals of the file.
abbrev pub FrameWalkIsRun : Type 0
FrameWalkIsRun = (f : Frame) → HasLawfulRows f.program → (contracts : List Contract) → IsAmong f contracts →
    (k : ℕ) (u : UnrolledProgram) → IsUnrolling f contracts k u → (asked : ℕ → Bool) → AsksLiterals f k asked →
    (r : Reading) → IsReading r → IsEntryStateOver f.program asked r.state → (x : Root) (anchor : Anchor) → IsRootOf f u x anchor →
    IsAnchor f k anchor → BeginsAt f asked r anchor → (steps : ℕ) →
    IsSame f contracts u anchor (walk_of u r x steps) (read_run f k r anchor steps)

-- the memory has the known bytes that are asked
abbrev pub HasAsked : UnrolledProgram → (asked : ℕ → Bool) → (ℕ → ℕ) → Type 0
HasAsked u asked m = (a b : ℕ) → a < 2 ^ 32 → byte_of_runs u.known a ≡ Some b → asked a ≡ true → m a ≡ b

-- those of them that are kept
abbrev pub HasAskedKept : UnrolledProgram → (asked : ℕ → Bool) → (ℕ → ℕ) → Type 0
HasAskedKept u asked m =
    (a b : ℕ) → a < 2 ^ 32 → byte_of_runs u.known a ≡ Some b → is_in u.kept a ≡ true → asked a ≡ true → m a ≡ b

-- the entry condition, as far as known bytes are asked
pub record MeetsEntryOver (u : UnrolledProgram) (asked : ℕ → Bool) (s : State) : Type 0 where
  pub state : IsState s
  pub pc : s.pc ≡ u.entry
  pub link : IsAtPlace u.narrow (s.regs u.link)
  pub requires : false_line u.endian u.requires s s ≡ None
  pub bytes : HasAsked u asked s.mem

-- the entry condition
abbrev pub MeetsEntry : UnrolledProgram → State → Type 0
MeetsEntry u s = MeetsEntryOver u (λ a. true) s

-- the bit of the sweep that tells a question
abbrev pub SweepEndsBy : UnrolledProgram → Reading → Question → Type 0
SweepEndsBy u r EntryQuestion = Unit {0}
SweepEndsBy u r FailQuestion = (swept u r).fails ≡ true
SweepEndsBy u r StepQuestion = (swept u r).steps ≡ true
SweepEndsBy u r TurnQuestion = (swept u r).turns ≡ true

-- The question over the known bytes that are asked is true of the reading, by the sweep. heads: the frame has a head, so that there is a head part.
pub record IsTrueOfSweepOver (u : UnrolledProgram) (heads : Bool) (asked : ℕ → Bool) (r : Reading) (question : Question) : Type 0 where
  pub reading : IsReading r
  pub entry : MeetsEntryOver u asked r.state
  pub head : heads ≡ true → asks_head question ≡ true → HasAskedKept u asked r.head.mem
  pub ends : SweepEndsBy u r question

-- each byte that is asked is known
abbrev pub AsksKnown : Frame → (ℕ → Bool) → Type 0
AsksKnown f asked = (a : ℕ) → asked a ≡ true → is_known_at f.program a ≡ true

-- the entry condition of the unrolled frame is that of the frame
abbrev pub FrameEntryIsSame : Type 0
FrameEntryIsSame = (f : Frame) (contracts : List Contract) (k : ℕ) (u : UnrolledProgram) → IsUnrolling f contracts k u → (s : State) →
    MeetsEntry u s ↔ IsEntryState f.program s

-- The questions of an unrolled frame, by its sweep, are those of the frame, over each set of known bytes that has the literals. Heads are addresses of states.
abbrev pub FrameAnswersOver : Type 0
FrameAnswersOver = (f : Frame) → HasLawfulRows f.program → ((a : ℕ) → is_head f a ≡ true → a < 2 ^ 32) →
    (contracts : List Contract) → IsAmong f contracts → (k : ℕ) (u : UnrolledProgram) → IsUnrolling f contracts k u →
    (asked : ℕ → Bool) → AsksKnown f asked → AsksLiterals f k asked → (r : Reading) (question : Question) →
    IsTrueOfSweepOver u (has_heads f) asked r question ↔ IsTrueOver f asked k r question

-- the walk from a root meets the point at a place at most once
abbrev pub FrameMeetsOnce : Type 0
FrameMeetsOnce = (u : UnrolledProgram) → IsRooted u → (r : Reading) (x : Root) → Contains u.roots x → is_assumed u r x ≡ true →
    (i m n : ℕ) (c d : Content) → walk_of u r x m ≡ WalkIsAt i c → walk_of u r x n ≡ WalkIsAt i d → (m ≡ n) × (c ≡ d)
