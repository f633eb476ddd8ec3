-- The terms of a question as cells: the word or the memory that stands for each.
use Rattle.std.specs.Prelude.{ℕ, ◌≡◌, ◌≤◌, ◌<◌, ◌+◌, ◌*◌, ◌^◌, Bool, List, length, take, slice_index, sum_by}
use Rattle.word_spec.specs.Memory.{Memory}
use Rattle.term_spec.specs.Terms.{TermReading, InRange, TermNode, AreTyped, HasWidth, width_of, node_at, term_value, term_word, term_gates, term_loads, term_stores, term_joins}
use Rattle.frame_spec.specs.FrameWalk.{UnrolledProgram}
use Rattle.frame_terms.specs.PassiveFrames.{IsNamedBelow}
use Rattle.term_dag.specs.declared.nodes.Term.{Term}
use Rattle.mem_cells.specs.declared.building.Build.{Build}
use Rattle.mem_cells.specs.declared.lowering.Lowered.{Lowered}
use Rattle.mem_cells.specs.declared.pieces.StoredByte.{StoredByte}
use Rattle.mem_cells.specs.declared.pieces.Piece.{Piece}
use Rattle.mem_cells.specs.Parts.{frame_of_build, heads_of_build}
use Rattle.mem_cells.specs.Pieces.{ArePieces, link, piece_gates}
use Rattle.mem_cells.specs.Building.{read_places, IsBuilt, GivesAll, AreMemories}

-- the nodes of the question that is built
abbrev pub source_of : Build → List TermNode
source_of b = b.question.now.dag

-- Words, and memories by the numbers of pieces, are those of the first terms of some nodes.
pub record Mean (x : TermReading) (ns : List TermNode) (d : ℕ) (w : ℕ →
    ℕ) (ts : List Term) (numbers : List ℕ) (stored : List StoredByte) (pieces : List Piece) (memories : ℕ → Memory) : Type 0 where
  pub are : AreMemories w x.mem stored pieces memories
  pub words : (t : ℕ) → t < d → 1 ≤ width_of (node_at ns t) → w (link ts t) ≡ term_word x ns t
  pub bytes : (t : ℕ) → t < d → width_of (node_at ns t) ≡ 0 → (i : ℕ) → i < 2 ^ 32 → memories (slice_index numbers t) i ≡ (term_value x ns t).bytes i

-- The first terms of some nodes have a word of their width or the number of a piece each, with their values where each part's memory has the bytes of
-- its reads.
pub record Stands (ns : List TermNode) (d : ℕ) (b : Build) (words : List Term) (numbers : List ℕ) (stored : List StoredByte) (ps : List Piece) : Type 0 where
  pub built : IsBuilt b
  pub word_count : length words ≡ d
  pub number_count : length numbers ≡ d
  pub pieces : ArePieces b stored ps
  pub widths : (t : ℕ) → t < d → 1 ≤ width_of (node_at ns t) → HasWidth b.dag (width_of (node_at ns t)) (link words t)
  pub within : (t : ℕ) → t < d → width_of (node_at ns t) ≡ 0 → slice_index numbers t < length ps
  pub means : (x : TermReading) → InRange x → GivesAll b x → (memories : ℕ → Memory) × Mean x ns d (term_word x b.dag) words numbers stored ps memories

-- What the first terms take: their own gates, for each byte that is loaded a sum and what the pieces take, for each that is stored a sum; and an address
-- for each byte that is loaded.
pub record Costs (ns : List TermNode) (d : ℕ) (g r p : ℕ) : Type 0 where
  pub gates : g ≤ term_gates (take d ns) + term_loads (take d ns) * (64 + (40 * term_stores ns + 8 * term_joins ns)) + 64 * term_stores (take d ns)
  pub reads : r ≤ term_loads (take d ns)
  pub below : p ≤ 40 * term_stores (take d ns) + 8 * term_joins (take d ns)

-- the first terms of some nodes are lowered
pub record AreLowered (ns : List TermNode) (d : ℕ) (b : Build) (words : List Term) (numbers : List ℕ) (stored : List StoredByte)
    (pieces : List Piece) : Type 0 where
  pub typed : AreTyped ns
  pub few : d ≤ length ns
  pub stands : Stands ns d b words numbers stored pieces
  pub costs : Costs ns d (term_gates b.dag) (length (read_places b)) (sum_by piece_gates pieces)

-- the first terms of a question are
abbrev pub Lowers : (d : ℕ) → Build → Lowered → Type 0
Lowers d b l = AreLowered (source_of b) d b l.words.items l.numbers.items l.memories.stored.items l.memories.pieces.items

-- A node is that of the next term; it names inputs of the frame alone.
pub record IsNext (u : UnrolledProgram) (heads : Bool) (ns : List TermNode) (d : ℕ) (n : TermNode) : Type 0 where
  pub within : d < length ns
  pub is : n ≡ node_at ns d
  pub named : IsNamedBelow u heads 0 n

-- the node of the next term of a question
abbrev pub IsNextOf : (d : ℕ) → Build → TermNode → Type 0
IsNextOf d b n = IsNext (frame_of_build b) (heads_of_build b) (source_of b) d n
