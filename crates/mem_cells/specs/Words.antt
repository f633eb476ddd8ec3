-- Cells of a question in which some of its words have places.
use Rattle.std.specs.Prelude.{ℕ, ◌≡◌, ◌≤◌, ◌<◌, ◌+◌, Bool, List, [], ◌∷◌, length, map}
use Rattle.word_spec.specs.Memory.{Memory}
use Rattle.term_spec.specs.Terms.{TermReading, InRange, with_mem, TermNode, HasWidth, width_of, node_at, term_word, term_gates, term_loads}
use Rattle.walk_spec.specs.Unrolled.{UnrolledProgram}
use Rattle.walk_spec.specs.Prices.{stores_of, edges_of, known_of}
use Rattle.term_spec.specs.WalkQuestions.{QuestionTerm, HasAsked, is_asked}
use Rattle.term_spec.specs.Cells.{Cells, Gives, IsAllowed, AreFormed, cell_gates}
use Rattle.term_dag.specs.declared.nodes.Term.{Term}
use Rattle.question_form.specs.declared.questions.Question.{Question}
use Rattle.question_form.specs.Questions.{program_of_question, term_of}
use Rattle.mem_cells.specs.declared.cells.CelledWords.{CelledWords}
use Rattle.mem_cells.specs.Views.{cells_of, program_of_cells}

-- the places of terms
abbrev pub places_of : List Term → List ℕ
places_of terms = map (λ t. t.0) terms

-- the place is that of a word, and of no memory
abbrev pub IsWordAt : List TermNode → (place : ℕ) → Type 0
IsWordAt nodes t = (t < length nodes) × (1 ≤ width_of (node_at nodes t))

-- A place of cells stands for a word of nodes: it has the word's width, and its value where the memory has the byte of each base read.
pub record StandsFor (nodes : List TermNode) (c : Cells) (word place : ℕ) : Type 0 where
  pub width : HasWidth c.nodes (width_of (node_at nodes word)) place
  pub value : (x : TermReading) → InRange x → Gives c x → term_word x c.nodes place ≡ term_word x nodes word

-- places stand for words, in order
abbrev pub StandForEach : List TermNode → Cells → (words places : List ℕ) → Type 0
StandForEach nodes c [] [] = Unit {0}
StandForEach nodes c (w ∷ ws) (p ∷ ps) = StandsFor nodes c w p × StandForEach nodes c ws ps
StandForEach nodes c ws ps = ⊥

-- Cells tell a term over the known bytes that are asked, as TellsCells says it, for any number of loads that bounds those of the term; and places stand for
-- some of its words.
pub record TellsWithWords (u : UnrolledProgram) (t : QuestionTerm) (words : List ℕ) (asked : ℕ → Bool) (c : Cells) (places : List ℕ) : Type 0 where
  pub formed : AreFormed u c
  pub same : (x : TermReading) → InRange x → Gives c x → term_word x c.nodes c.root ≡ term_word x t.nodes t.root
  pub each : StandForEach t.nodes c words places
  pub sound : (x : TermReading) → InRange x → Gives c x → HasAsked u asked (x.mem 0) → IsAllowed c x
  pub complete : (x : TermReading) → InRange x → IsAllowed c x →
      (m : Memory) × ((a : ℕ) → m a < 256) × HasAsked u asked m × Gives c (with_mem x m)
  pub gates : (loads : ℕ) → term_loads t.nodes ≤ loads →
      term_gates c.nodes ≤ term_gates t.nodes + cell_gates loads (stores_of u) (edges_of u) (known_of u)
  pub reads : (loads : ℕ) → term_loads t.nodes ≤ loads → length c.addresses ≤ loads

-- cells are those of a question, and places stand for some of its words
pub record AreCellsWithWords (q : Question) (words : List Term) (added : List ℕ) (c : CelledWords) : Type 0 where
  pub of : c.celled.question.now ≡ q
  pub tells : TellsWithWords (program_of_cells c.celled) (term_of q) (places_of words) (is_asked added (program_of_question q).literals) (cells_of c.celled)
      (places_of c.words.items)
