-- Copies of a term with what is known of registers put in.
use Rattle.std.specs.Prelude.{ℕ, ◌≡◌, ◌-◌, ◌<◌, ◌≤◌, Bool, true, List, [], length}
use Rattle.word_spec.specs.Words.{bits, complement, concat}
use Rattle.term_spec.specs.Terms.{TermReading, InRange, TermNode, RegisterNode, AreTyped, HasWidth, term_word, term_value, width_of, node_at, own_gates, own_loads, own_stores, own_joins, term_gates, term_loads, term_stores, term_joins}
use Rattle.term_dag.specs.declared.nodes.Term.{Term}
use Rattle.term_dag.specs.Made.{Grew, InputsFrom}
use Rattle.weakest_pre.specs.declared.facts.Facts.{Facts}
use Rattle.weakest_pre.specs.declared.facts.Runs.{Runs}
use Rattle.weakest_pre.specs.Copies.{is_marked, root_at, IsMoved}
use Rattle.weakest_pre.specs.Known.{AreMet, IsRuns}

-- a reading is in range, and its registers at entry are as is known
pub record IsMetBy (f : Facts) (x : TermReading) : Type 0 where
  pub range : InRange x
  pub known : AreMet f.registers.items (x.regs 0)

-- a word, by the parts of its complement
abbrev pub pieces : Runs → ℕ → ℕ
pieces r w = complement 32 (concat r.place (complement (32 - r.place) r.above) (concat r.count (bits (r.place - 1) r.count (complement 32 w))
    (complement r.count r.below)))

-- A term is a register at entry where that is as is known. It costs nothing, and names no other input.
pub record IsKnownRegister (old new : List TermNode) (register : ℕ) (r : Runs) (t : ℕ) : Type 0 where
  pub grew : Grew old new 0 0 0 0 16
  pub inputs : InputsFrom old new (λ m. m ≡ RegisterNode 0 register)
  pub typed : AreTyped new
  pub width : HasWidth new 32 t
  pub value : (x : TermReading) → InRange x → IsRuns r (x.regs 0 register) → term_word x new t ≡ x.regs 0 register

-- The folded copy of a place, if it is marked: it costs no more than the node of the place, names no input that the list does not, and has the value of the
-- place under some readings.
pub record IsFolded (P : TermReading → Type 0) (source old new : List TermNode) (marks : List Bool) (i t : ℕ) : Type 0 where
  pub grew : Grew old new (own_gates (node_at source i)) (own_loads (node_at source i)) (own_stores (node_at source i)) (own_joins (node_at source i)) 16
  pub inputs : InputsFrom old new (IsMoved source)
  pub typed : AreTyped new
  pub width : is_marked marks i ≡ true → HasWidth new (width_of (node_at source i)) t
  pub value : (x : TermReading) → P x → is_marked marks i ≡ true → term_value x new t ≡ term_value x source i

-- A list of nodes of its own has terms of another list, with their widths, and with their values under some readings. It costs no more than that list, and
-- names no other input.
pub record AreFoldedRoots (P : TermReading → Type 0) (source new : List TermNode) (roots ts : List Term) : Type 0 where
  pub gates : term_gates new ≤ term_gates source
  pub loads : term_loads new ≤ term_loads source
  pub stores : term_stores new ≤ term_stores source
  pub joins : term_joins new ≤ term_joins source
  pub inputs : InputsFrom [] new (IsMoved source)
  pub typed : AreTyped new
  pub count : length ts ≡ length roots
  pub widths : (k : ℕ) → k < length roots → HasWidth new (width_of (node_at source (root_at roots k))) (root_at ts k)
  pub values : (x : TermReading) → P x → (k : ℕ) → k < length roots → term_value x new (root_at ts k) ≡ term_value x source (root_at roots k)

-- Terms of a list have their copies in another, with the same widths, and with the same values under some readings. What is new costs no more than the list,
-- has no more nodes, and names no other input.
pub record AreFoldedCopies (P : TermReading → Type 0) (source old new : List TermNode) (roots ts : List Term) : Type 0 where
  pub grew : Grew old new (term_gates source) (term_loads source) (term_stores source) (term_joins source) (length source)
  pub inputs : InputsFrom old new (IsMoved source)
  pub typed : AreTyped new
  pub count : length ts ≡ length roots
  pub widths : (k : ℕ) → k < length roots → HasWidth new (width_of (node_at source (root_at roots k))) (root_at ts k)
  pub values : (x : TermReading) → P x → (k : ℕ) → k < length roots → term_value x new (root_at ts k) ≡ term_value x source (root_at roots k)

-- A term of a list has its copy in another, with the same width, and with the same value under some readings. What is new costs no more than the list, has no
-- more nodes, and names no other input.
pub record IsFoldedCopy (P : TermReading → Type 0) (source old new : List TermNode) (root t : ℕ) : Type 0 where
  pub grew : Grew old new (term_gates source) (term_loads source) (term_stores source) (term_joins source) (length source)
  pub inputs : InputsFrom old new (IsMoved source)
  pub typed : AreTyped new
  pub width : HasWidth new (width_of (node_at source root)) t
  pub value : (x : TermReading) → P x → term_value x new t ≡ term_value x source root
