-- The questions of an unrolled program, over a walk, and what a term of a question says.
use Rattle.std.specs.Prelude.{ℕ, ◌≡◌, ◌≤◌, ◌<◌, ◌+◌, ◌-◌, ◌*◌, ◌^◌, ◌↔◌, Bool, true, ◌==◌, ◌||◌, nat_eq, List, [], ◌∷◌, Some, None, length, Contains}
use Rattle.std.specs.List.{list_any}
use Rattle.word_spec.specs.Words.{add}
use Rattle.word_spec.specs.State.{State, IsState}
use Rattle.machine_spec.specs.Machine.{IsAtPlace}
use Rattle.machine_spec.specs.Endings.{Event}
use Rattle.bilv_spec.specs.Run.{false_line}
use Rattle.bilv_spec.specs.Points.{Point}
use Rattle.bilv_spec.specs.Questions.{Reading, IsReading}
use Rattle.call_spec.specs.Calls.{Question, EntryQuestion, FailQuestion, TurnQuestion}
use Rattle.term_spec.specs.Terms.{TermReading, TermNode, RegisterNode, FlagNode, ChoiceNode, BaseNode, MemoryNode, TakeNode, AreTyped, HasWidth, term_word, term_gates, term_loads, term_stores, term_joins}
use Rattle.walk_spec.specs.Unrolled.{UnrolledProgram, is_register_of, is_flag_of, byte_of_runs, point_at, WalkFails, WalkTurns, walk}
use Rattle.walk_spec.specs.Prices.{point_price, term_price, point_loads, loads_of, stores_of, edges_of, point_bound, node_bound}

-- how the walk of the reading ends where the question is true of it
abbrev pub WalkEndsBy : UnrolledProgram → Reading → Question → Type 0
WalkEndsBy u r EntryQuestion = Unit {0}
WalkEndsBy u r FailQuestion = (points : ℕ) × (e : Event) × (walk u r points ≡ WalkFails e)
WalkEndsBy u r TurnQuestion = (points : ℕ) × (walk u r points ≡ WalkTurns)

-- the part of the entry condition that is no byte of the file: the link value is an address of a row, and the required lines are true
pub record MeetsLines (u : UnrolledProgram) (s : State) : Type 0 where
  pub link : IsAtPlace u.narrow (s.regs u.link)
  pub requires : false_line u.endian u.requires s s ≡ None

-- the known bytes that are asked on demand: some that were added, and the four of each literal
abbrev pub is_asked : (added literals : List ℕ) → ℕ → Bool
is_asked added literals a = list_any (nat_eq a) added || list_any (λ l. list_any (λ i. a == add 32 l i) (0 ∷ 1 ∷ 2 ∷ 3 ∷ [])) literals

-- the memory has the known bytes that are asked
abbrev pub HasAsked : UnrolledProgram → (asked : ℕ → Bool) → (ℕ → ℕ) → Type 0
HasAsked u asked m = (a b : ℕ) → a < 2 ^ 32 → byte_of_runs u.known a ≡ Some b → asked a ≡ true → m a ≡ b

-- the entry condition, as far as known bytes are asked
pub record MeetsEntryOver (u : UnrolledProgram) (asked : ℕ → Bool) (s : State) : Type 0 where
  pub state : IsState s
  pub pc : s.pc ≡ u.entry
  pub lines : MeetsLines u s
  pub bytes : HasAsked u asked s.mem

-- the entry condition
abbrev pub MeetsEntry : UnrolledProgram → State → Type 0
MeetsEntry u s = MeetsEntryOver u (λ a. true) s

-- the question over the known bytes that are asked is true of the reading
pub record IsTrueOfWalkOver (u : UnrolledProgram) (asked : ℕ → Bool) (r : Reading) (question : Question) : Type 0 where
  pub choice : (point : Point) → r.choice point < 4
  pub entry : MeetsEntryOver u asked r.state
  pub ends : WalkEndsBy u r question

-- the question is true of the reading
abbrev pub IsTrueOfWalk : UnrolledProgram → Reading → Question → Type 0
IsTrueOfWalk u r question = IsTrueOfWalkOver u (λ a. true) r question

-- the question is true of the reading, but for the bytes of the file
pub record IsTrueButBytes (u : UnrolledProgram) (r : Reading) (question : Question) : Type 0 where
  pub lines : MeetsLines u r.state
  pub ends : WalkEndsBy u r question

-- A reading as terms are read under it: each part is the state at entry, a choice for each place is that of its point, and no base read is made.
abbrev pub term_reading : UnrolledProgram → Reading → TermReading
term_reading u r = record {
  regs = λ p. r.state.regs;
  flags = λ p. r.state.flags;
  mem = λ p. r.state.mem;
  choice = λ i. r.choice (point_at u i).point;
  base = λ p j. 0;
}

-- the place is that of a point whose row reads the choice
abbrev pub DrawsAt : UnrolledProgram → ℕ → Type 0
DrawsAt u i = (i < length u.points) × ((point_at u i).draws ≡ true)

-- A node names the program's registers and flags, its memory, and choices that are drawn, all of the one part that a program has.
abbrev pub IsInputOf : UnrolledProgram → TermNode → Type 0
IsInputOf u (RegisterNode p n) = (p ≡ 0) × (is_register_of u n ≡ true)
IsInputOf u (FlagNode p f) = (p ≡ 0) × (is_flag_of u f ≡ true)
IsInputOf u (ChoiceNode i) = DrawsAt u i
IsInputOf u (MemoryNode p) = p ≡ 0
IsInputOf u (TakeNode n m a p) = ⊥
IsInputOf u n = Unit {0}

-- a node names what may be named, and base reads below a number, of memories that may be named
abbrev pub IsNamedBy : (names : TermNode → Type 0) → (reads : ℕ) → TermNode → Type 0
IsNamedBy names reads (BaseNode p j) = names (MemoryNode p) × (j < reads)
IsNamedBy names reads n = names n

-- a node names the program's inputs, and base reads below a number
abbrev pub IsNamedBelow : UnrolledProgram → (reads : ℕ) → TermNode → Type 0
IsNamedBelow u reads n = IsNamedBy (IsInputOf u) reads n

-- all nodes do
abbrev pub AreNamedBelow : UnrolledProgram → (reads : ℕ) → List TermNode → Type 0
AreNamedBelow u reads nodes = (n : TermNode) → Contains nodes n → IsNamedBelow u reads n

-- a term: nodes, and the place of the one that is meant
pub record QuestionTerm : Type 0 where
  pub nodes : List TermNode
  pub root : ℕ

-- how many gates, byte loads and nodes terms may have
pub record Room : Type 0 where
  pub gates : ℕ
  pub loads : ℕ
  pub nodes : ℕ

-- the room of the terms of the points
abbrev pub point_room : UnrolledProgram → Room
point_room u = record { gates = point_price u; loads = point_loads u; nodes = point_bound u }

-- the room of the terms of a question, with one gate less than the price pays for, since the clauses have one variable more
abbrev pub question_room : UnrolledProgram → Room
question_room u = record { gates = term_price u - 1; loads = loads_of u; nodes = node_bound u }

-- The nodes are terms over an unrolled program: typed, and over its inputs without base reads; they are within the room, with no more byte stores than are
-- counted, and a join for each edge and two for each byte store.
pub record AreTermsWithin (u : UnrolledProgram) (room : Room) (nodes : List TermNode) : Type 0 where
  pub typed : AreTyped nodes
  pub named : AreNamedBelow u 0 nodes
  pub gates : term_gates nodes ≤ room.gates
  pub loads : term_loads nodes ≤ room.loads
  pub stores : term_stores nodes ≤ stores_of u
  pub joins : term_joins nodes ≤ edges_of u + 2 * stores_of u
  pub few : length nodes ≤ room.nodes

-- The term of a question: one bit, which is 1 under exactly those readings of which the question is true but for the bytes of the file.
pub record TellsQuestion (u : UnrolledProgram) (question : Question) (t : QuestionTerm) : Type 0 where
  pub terms : AreTermsWithin u (question_room u) t.nodes
  pub root : HasWidth t.nodes 1 t.root
  pub means : (r : Reading) → IsReading r → r.state.pc ≡ u.entry → (term_word (term_reading u r) t.nodes t.root ≡ 1) ↔ IsTrueButBytes u r question
