-- Cells of a question of a frame, in which some of its words have places, whatever its price is.
use Rattle.std.specs.Prelude.{ℕ, ◌≡◌, ◌≤◌, ◌+◌, ◌*◌, Bool, List, [], ◌∷◌, length, map}
use Rattle.word_spec.specs.RowFiles.{from_to}
use Rattle.term_spec.specs.Terms.{TermReading, InRange, TermNode, HasWidth, width_of, node_at, term_word, term_gates, term_loads, term_stores, term_joins}
use Rattle.term_spec.specs.Cells.{cell_gates}
use Rattle.term_spec.specs.WalkQuestions.{QuestionTerm, is_asked}
use Rattle.frame_spec.specs.FrameWalk.{UnrolledProgram}
use Rattle.frame_laws.specs.FramePrices.{stores_of, known_of}
use Rattle.frame_terms.specs.PassiveFrames.{NamesMemory}
use Rattle.frame_terms.specs.FrameCells.{Cells, Gives, IsAllowed, AreFormed, HaveAsked, Completes}
use Rattle.frame_terms.specs.HeadlessTerms.{as_read}
use Rattle.term_dag.specs.declared.nodes.Term.{Term}
use Rattle.question_form.specs.declared.questions.Question.{Question}
use Rattle.question_form.specs.Questions.{term_of}
use Rattle.question_form.specs.FrameQuestions.{frame_of_question, heads_of_question, is_of_heads}
use Rattle.mem_cells.specs.declared.cells.CelledWords.{CelledWords}
use Rattle.mem_cells.specs.FrameViews.{frame_cells_of, frame_of_cells}
use Rattle.mem_cells.specs.Words.{places_of}

-- A place of cells stands for a word of nodes: it has the word's width, and its value where each part's memory has the bytes of its base reads.
pub record IsPlaceOf (nodes : List TermNode) (c : Cells) (word place : ℕ) : Type 0 where
  pub width : HasWidth c.nodes (width_of (node_at nodes word)) place
  pub value : (x : TermReading) → InRange x → Gives c x → term_word x c.nodes place ≡ term_word x nodes word

-- places stand for words, in order
abbrev pub ArePlacesOf : List TermNode → Cells → (words places : List ℕ) → Type 0
ArePlacesOf nodes c [] [] = Unit {0}
ArePlacesOf nodes c (w ∷ ws) (p ∷ ps) = IsPlaceOf nodes c w p × ArePlacesOf nodes c ws ps
ArePlacesOf nodes c ws ps = ⊥

-- Cells tell a term over the known bytes that are asked, as TellsCells says it, and places stand for some of its words. gates: for any loads, stores and edges
-- that bound those of the term. flat: where terms may read the memory of no other part, the reads are the entry's at each address.
pub record TellsWords (u : UnrolledProgram) (heads of_head : Bool) (t : QuestionTerm) (words : List ℕ) (asked : ℕ →
    Bool) (c : Cells) (places : List ℕ) : Type 0 where
  pub formed : AreFormed u heads c
  pub same : (x : TermReading) → InRange x → Gives c x → term_word x c.nodes c.root ≡ term_word x t.nodes t.root
  pub each : ArePlacesOf t.nodes c words places
  pub sound : (x : TermReading) → InRange x → Gives c x → HaveAsked u of_head asked x → IsAllowed c x
  pub complete : (x : TermReading) → InRange x → IsAllowed c x → Completes u of_head asked c x
  pub gates : (loads stores edges : ℕ) → term_loads t.nodes ≤ loads → term_stores t.nodes ≤ stores → term_joins t.nodes ≤ edges + 2 * stores →
      term_gates c.nodes ≤ term_gates t.nodes + cell_gates loads stores edges (known_of u)
  pub few : length c.addresses ≤ term_loads t.nodes
  pub few_reads : length c.reads ≤ length c.addresses * (2 + stores_of u)
  pub flat : ((p : ℕ) → NamesMemory u heads p → p ≡ 0) → c.reads ≡ map as_read (from_to 0 (length c.addresses))

-- cells are those of a question of a frame, and places stand for some of its words
pub record AreMadeOf (q : Question) (words : List Term) (added : List ℕ) (c : CelledWords) : Type 0 where
  pub of : c.celled.question.now ≡ q
  pub tells : TellsWords (frame_of_cells c.celled) (heads_of_question q) (is_of_heads q) (term_of q) (places_of words)
      (is_asked added (frame_of_question q).literals) (frame_cells_of c.celled) (places_of c.words.items)
