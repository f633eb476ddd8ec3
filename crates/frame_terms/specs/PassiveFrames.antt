-- Passive programs of unrolled frames: terms that say where the walks of a reading go, from all roots at once; the terms of questions; and what terms need of
-- an unrolled frame.
use Rattle.std.specs.Prelude.{ℕ, zero, suc, ◌≡◌, ◌≤◌, ◌<◌, ◌+◌, ◌-◌, ◌*◌, ◌^◌, ◌↔◌, Bool, true, nat_eq, nat_lt, if◌then◌else◌, List, [], Option, Some, None, length, slice_index, sum_by, Contains}
use Rattle.std.specs.List.{list_any}
use Rattle.word_spec.specs.Words.{bit}
use Rattle.word_spec.specs.State.{State}
use Rattle.machine_spec.specs.Bil.{Statements}
use Rattle.machine_spec.specs.Machine.{IsAtPlace}
use Rattle.bilv_spec.specs.Notes.{Expr, NoteLine}
use Rattle.bilv_spec.specs.Points.{line_price, bytes_loaded}
use Rattle.bilv_spec.specs.Run.{false_line}
use Rattle.term_spec.specs.Terms.{TermReading, TermNode, RegisterNode, FlagNode, ChoiceNode, MemoryNode, TakeNode, HasWidth, HasMemory, AreTyped, term_value, term_word, term_gates, term_loads, term_stores, term_joins}
use Rattle.walk_spec.specs.Unrolled as tables
use Rattle.walk_spec.specs.Unrolling.{AreRuns, IsReadable, IsSized}
use Rattle.term_spec.specs.WalkQuestions.{Room, QuestionTerm, IsNamedBy}
use Rattle.term_spec.specs.Passive.{Names}
use Rattle.frame_spec.specs.Frames.{Content, Writes, content_of}
use Rattle.frame_spec.specs.FrameQuestions.{Reading, IsReading, Question}
use Rattle.frame_spec.specs.FrameWalk.{PointExit, Action, Executes, Arrives, StepsOver, Gift, Root, Own, UnrolledProgram, point_at, IsRooted, Held, held, swept}
use Rattle.frame_spec.specs.FrameUnrolling.{CanBeTerms}
use Rattle.frame_laws.specs.FramePrices.{line_of, goes_out, edges_of, begin_lines, loads_of, stores_of, point_price, point_loads, point_bound, term_price, node_bound, root_bound}
use Rattle.frame_laws.specs.RunOfFrame.{SweepEndsBy}

-- The parts of a reading of a frame: the entry's is 0, the head's 1, and that of what is given at the contract point of a place is the place and 2.
abbrev pub entry_part : ℕ
entry_part = 0

abbrev pub head_part : ℕ
head_part = 1

abbrev pub gift_part : (place : ℕ) → ℕ
gift_part i = suc (suc i)

-- what a part has
abbrev pub part_content : UnrolledProgram → Reading → (part : ℕ) → Content
part_content u r zero = content_of r.state
part_content u r (suc zero) = r.head
part_content u r (suc (suc i)) = r.given (point_at u i).point

-- A reading as terms are read under it: choices and gifts of places are those of their points, and no base read is made.
abbrev pub part_reading : UnrolledProgram → Reading → TermReading
part_reading u r = record {
  regs = λ p. (part_content u r p).regs;
  flags = λ p. (part_content u r p).flags;
  mem = λ p. (part_content u r p).mem;
  choice = λ i. r.choice (point_at u i).point;
  base = λ p j. 0;
}

-- the place is that of a point whose row reads the choice
abbrev pub DrawsAt : UnrolledProgram → ℕ → Type 0
DrawsAt u i = (i < length u.points) × ((point_at u i).draws ≡ true)

-- the place is that of a contract point, which does this
pub record IsGiftAt (u : UnrolledProgram) (i : ℕ) (x : Gift) : Type 0 where
  pub place : i < length u.points
  pub does : (point_at u i).does ≡ StepsOver x

-- what is given at the place has a memory, where the contract may write
abbrev pub GivesMemory : UnrolledProgram → (place : ℕ) → Type 0
GivesMemory u i = (x : Gift) × (w : Writes) × IsGiftAt u i x × Contains x.writes w

-- The registers, the flags and the memory of a part that terms may name: all that the frame has of the entry's, and of the head's, where it has a head; of a
-- gift what the contract may change.
abbrev pub NamesRegister : UnrolledProgram → (heads : Bool) → (part : ℕ) → ℕ → Type 0
NamesRegister u heads zero n = list_any (nat_eq n) u.registers ≡ true
NamesRegister u heads (suc zero) n = (heads ≡ true) × (list_any (nat_eq n) u.registers ≡ true)
NamesRegister u heads (suc (suc i)) n = (list_any (nat_eq n) u.registers ≡ true) × ((x : Gift) × IsGiftAt u i x × Contains x.registers n)

abbrev pub NamesFlag : UnrolledProgram → (heads : Bool) → (part : ℕ) → ℕ → Type 0
NamesFlag u heads zero f = nat_lt f u.flags ≡ true
NamesFlag u heads (suc zero) f = (heads ≡ true) × (nat_lt f u.flags ≡ true)
NamesFlag u heads (suc (suc i)) f = (nat_lt f u.flags ≡ true) × ((x : Gift) × IsGiftAt u i x × Contains x.flags f)

abbrev pub NamesMemory : UnrolledProgram → (heads : Bool) → (part : ℕ) → Type 0
NamesMemory u heads zero = Unit {0}
NamesMemory u heads (suc zero) = heads ≡ true
NamesMemory u heads (suc (suc i)) = GivesMemory u i

-- a take is of what is given: only a contract step takes
abbrev pub TakesMemory : UnrolledProgram → (part : ℕ) → Type 0
TakesMemory u zero = ⊥
TakesMemory u (suc zero) = ⊥
TakesMemory u (suc (suc i)) = GivesMemory u i

-- what a node names of a reading, but for base reads, is an input of the frame; heads: the frame has a head
abbrev pub IsInputOf : UnrolledProgram → (heads : Bool) → TermNode → Type 0
IsInputOf u heads (RegisterNode p n) = NamesRegister u heads p n
IsInputOf u heads (FlagNode p f) = NamesFlag u heads p f
IsInputOf u heads (ChoiceNode i) = DrawsAt u i
IsInputOf u heads (MemoryNode p) = NamesMemory u heads p
IsInputOf u heads (TakeNode n m a p) = TakesMemory u p
IsInputOf u heads n = Unit {0}

-- a node names these, and base reads below a number; base reads of all parts count together, by their addresses
abbrev pub IsNamedBelow : UnrolledProgram → (heads : Bool) → (reads : ℕ) → TermNode → Type 0
IsNamedBelow u heads reads n = IsNamedBy (IsInputOf u heads) reads n

abbrev pub AreNamedBelow : UnrolledProgram → (heads : Bool) → (reads : ℕ) → List TermNode → Type 0
AreNamedBelow u heads reads nodes = (n : TermNode) → Contains nodes n → IsNamedBelow u heads reads n

-- The nodes are terms over an unrolled frame: typed, and over its inputs without base reads; they are within the room, with no more byte stores than are
-- counted, and a join for each edge and two for each byte store. heads: the frame has a head.
pub record AreTermsWithin (u : UnrolledProgram) (heads : Bool) (room : Room) (nodes : List TermNode) : Type 0 where
  pub typed : AreTyped nodes
  pub named : AreNamedBelow u heads 0 nodes
  pub gates : term_gates nodes ≤ room.gates
  pub loads : term_loads nodes ≤ room.loads
  pub stores : term_stores nodes ≤ stores_of u
  pub joins : term_joins nodes ≤ edges_of u + 2 * stores_of u
  pub few : length nodes ≤ room.nodes

-- the room of the terms of the points, and of where segments begin; heads: the frame has a head
abbrev pub passive_room : UnrolledProgram → (heads : Bool) → Room
passive_room u heads = record {
  gates = point_price u + ((if heads then 1024 else 0) + sum_by line_price (begin_lines u));
  loads = point_loads u + sum_by bytes_loaded (begin_lines u);
  nodes = point_bound u + root_bound u;
}

-- the room of the terms of a question, with one gate less than the price pays for, since the clauses have one variable more
abbrev pub question_room : UnrolledProgram → (heads : Bool) → Room
question_room u heads = record { gates = term_price u heads - 1; loads = loads_of u; nodes = node_bound u }

-- the terms have the widths of what they name
pub record AreNames (u : UnrolledProgram) (nodes : List TermNode) (names : Names) : Type 0 where
  pub registers : length names.registers ≡ length u.registers
  pub flags : length names.flags ≡ u.flags
  pub words : (i : ℕ) → i < length u.registers → HasWidth nodes 32 (slice_index names.registers i)
  pub bits : (f : ℕ) → f < u.flags → HasWidth nodes 1 (slice_index names.flags f)
  pub memory : HasMemory nodes names.memory

-- Under a reading the terms have the values of what is carried: of the memory, at each address of 32 bits. What a contract step leaves above those is the
-- gift's, which no machine sees, and a take does not have it.
pub record Denotes (u : UnrolledProgram) (nodes : List TermNode) (x : TermReading) (names : Names) (c : Content) : Type 0 where
  pub registers : (i : ℕ) → i < length u.registers → term_word x nodes (slice_index names.registers i) ≡ c.regs (slice_index u.registers i)
  pub flags : (f : ℕ) → f < u.flags → term_word x nodes (slice_index names.flags f) ≡ c.flags f
  pub memory : (a : ℕ) → a < 2 ^ 32 → (term_value x nodes names.memory).bytes a ≡ c.mem a

-- a bit has the value of a test
abbrev pub Tells : List TermNode → TermReading → (place : ℕ) → Bool → Type 0
Tells nodes x t b = term_word x nodes t ≡ bit b

-- A passive program of an unrolled frame: a bit for each place that is met, and one each for an event of the entry's segment, for one of a segment from a
-- head, and for one backward transfer too many. The invariants that a root assumes are part of it; the entry condition is not.
pub record Passive : Type 0 where
  pub nodes : List TermNode
  pub met : List ℕ
  pub fails : ℕ
  pub steps : ℕ
  pub turns : ℕ

-- what holds under every reading that begins at the entry
abbrev pub UnderAll : UnrolledProgram → (Reading → Type 0) → Type 0
UnderAll u Claim = (r : Reading) → IsReading r → r.state.pc ≡ u.entry → Claim r

-- where the place is met, the terms have the values of what is carried to it
abbrev pub DenotesMet : UnrolledProgram → List TermNode → Held → Reading → Names → (place : ℕ) → Type 0
DenotesMet u nodes h r names i = h.met i ≡ true → Denotes u nodes (part_reading u r) names (h.carried i)

-- After the first places: under every reading the terms are what is held then. The terms of what is carried are asked of places that are still to be handled,
-- and count only where the place is met.
pub record Shows (u : UnrolledProgram) (handled : ℕ) (q : Passive) (names : ℕ → Names) : Type 0 where
  pub count : length q.met ≡ length u.points
  pub bits : (i : ℕ) → i < length u.points → HasWidth q.nodes 1 (slice_index q.met i)
  pub fails_bit : HasWidth q.nodes 1 q.fails
  pub steps_bit : HasWidth q.nodes 1 q.steps
  pub turns_bit : HasWidth q.nodes 1 q.turns
  pub forms : (i : ℕ) → handled ≤ i → i < length u.points → AreNames u q.nodes (names i)
  pub mets : UnderAll u (λ r. (i : ℕ) → i < length u.points → Tells q.nodes (part_reading u r) (slice_index q.met i) ((held u r handled).met i))
  pub carries : UnderAll u (λ r. (i : ℕ) → handled ≤ i → i < length u.points → DenotesMet u q.nodes (held u r handled) r (names i) i)
  pub failing : UnderAll u (λ r. Tells q.nodes (part_reading u r) q.fails (held u r handled).fails)
  pub stepping : UnderAll u (λ r. Tells q.nodes (part_reading u r) q.steps (held u r handled).steps)
  pub turning : UnderAll u (λ r. Tells q.nodes (part_reading u r) q.turns (held u r handled).turns)

-- What a passive program of an unrolled frame is: terms within what the price counts of its points and roots, which under every reading tell which places are
-- met, and how the segments end. heads: the frame has a head.
pub record IsPassive (u : UnrolledProgram) (heads : Bool) (q : Passive) : Type 0 where
  pub terms : AreTermsWithin u heads (passive_room u heads) q.nodes
  pub count : length q.met ≡ length u.points
  pub bits : (i : ℕ) → i < length u.points → HasWidth q.nodes 1 (slice_index q.met i)
  pub fails_bit : HasWidth q.nodes 1 q.fails
  pub steps_bit : HasWidth q.nodes 1 q.steps
  pub turns_bit : HasWidth q.nodes 1 q.turns
  pub mets : UnderAll u (λ r. (i : ℕ) → i < length u.points → Tells q.nodes (part_reading u r) (slice_index q.met i) ((swept u r).met i))
  pub failing : UnderAll u (λ r. Tells q.nodes (part_reading u r) q.fails (swept u r).fails)
  pub stepping : UnderAll u (λ r. Tells q.nodes (part_reading u r) q.steps (swept u r).steps)
  pub turning : UnderAll u (λ r. Tells q.nodes (part_reading u r) q.turns (swept u r).turns)

-- the part of the entry condition that is no byte of the file: the link value is an address of a row, and the required lines are true
pub record MeetsLines (u : UnrolledProgram) (s : State) : Type 0 where
  pub link : IsAtPlace u.narrow (s.regs u.link)
  pub requires : false_line u.endian u.requires s s ≡ None

-- the question is true of the reading, but for the bytes of the file
pub record IsTrueButBytes (u : UnrolledProgram) (r : Reading) (question : Question) : Type 0 where
  pub lines : MeetsLines u r.state
  pub ends : SweepEndsBy u r question

-- The term of a question: one bit, which is 1 under exactly those readings of which the question is true but for the bytes of the file.
pub record TellsQuestion (u : UnrolledProgram) (heads : Bool) (question : Question) (t : QuestionTerm) : Type 0 where
  pub terms : AreTermsWithin u heads (question_room u heads) t.nodes
  pub root : HasWidth t.nodes 1 t.root
  pub means : UnderAll u (λ r. (term_word (part_reading u r) t.nodes t.root ≡ 1) ↔ IsTrueButBytes u r question)

-- the unrolled frame without its points, as the program whose registers and flags lines of notes may read
abbrev pub inputs_of : UnrolledProgram → tables.UnrolledProgram
inputs_of u = record {
  endian = u.endian;
  narrow = u.narrow;
  registers = u.registers;
  flags = u.flags;
  link = u.link;
  entry = u.entry;
  requires = u.requires;
  ensures = u.ensures;
  kept = u.kept;
  known = u.known;
  literals = u.literals;
  points = [];
}

-- a line, and lines, can be read by the frame
abbrev pub CanRead : UnrolledProgram → Expr → Type 0
CanRead u e = IsReadable (inputs_of u) e

abbrev pub CanReadLines : UnrolledProgram → List NoteLine → Type 0
CanReadLines u lines = (l : NoteLine) → Contains lines l → CanRead u l.says

-- so the lines that say what may be written, which are of a byte at least
abbrev pub CanReadWrites : UnrolledProgram → List Writes → Type 0
CanReadWrites u writes = (w : Writes) → Contains writes w → CanRead u w.says × (1 ≤ w.count)

-- so what a contract's frame gives and may write
abbrev pub CanReadOwn : UnrolledProgram → Option Own → Type 0
CanReadOwn u None = Unit {0}
CanReadOwn u (Some x) = CanReadLines u x.gives × CanReadWrites u x.writes

-- so what a contract step gives and writes
abbrev pub CanReadAction : UnrolledProgram → Action → Type 0
CanReadAction u (Executes list) = Unit {0}
CanReadAction u Arrives = Unit {0}
CanReadAction u (StepsOver x) = CanReadLines u x.gives × CanReadWrites u x.writes

-- What terms need of an unrolled frame, without the frame that it is of: a state of the right size, a root at place 0, exits that lead to later places, at
-- most one of them out of the frame at each point, points that can be made terms, notes that can be read, and addresses that are words. A contract step counts
-- as a row, and as the stores of the bytes that it may write; and in the frame of a contract a row that may store has kept bytes, its own.
pub record IsWalkable (u : UnrolledProgram) : Type 0 where
  pub sized : IsSized (inputs_of u)
  pub rooted : IsRooted u
  pub begins : (x : Root) × Contains u.roots x × (x.place ≡ 0)
  pub one_out : (i : ℕ) → i < length u.points → sum_by (λ x. bit (goes_out x)) (point_at u i).exits ≤ 1
  pub terms : (i : ℕ) → i < length u.points → CanBeTerms u (point_at u i) (point_at u i).does
  pub at : (i : ℕ) → i < length u.points → (point_at u i).point.at < 2 ^ 32
  pub runs : AreRuns u.kept
  pub entry : u.entry < 2 ^ 32
  pub link : list_any (nat_eq u.link) u.registers ≡ true
  pub requires : CanReadLines u u.requires
  pub ensures : CanReadLines u u.ensures
  pub own : CanReadOwn u u.own
  pub assumes : (x : Root) → Contains u.roots x → CanReadLines u x.assumes
  pub exits : (i : ℕ) (x : PointExit) → i < length u.points → Contains (point_at u i).exits x → (e : Expr) → Contains (line_of x) e → CanRead u e
  pub does : (i : ℕ) → i < length u.points → CanReadAction u (point_at u i).does
  pub gifts : (i : ℕ) (x : Gift) → i < length u.points → (point_at u i).does ≡ StepsOver x →
      (64 ≤ (point_at u i).row) × (sum_by (λ w. w.count) x.writes ≤ (point_at u i).stores)
  pub kept_stores : (x : Own) → u.own ≡ Some x → (i : ℕ) (list : Statements) → i < length u.points → (point_at u i).does ≡ Executes list →
      1 ≤ (point_at u i).stores → 1 ≤ length u.kept
