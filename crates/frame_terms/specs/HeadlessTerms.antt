-- Without invariants and contracts the passive programs, question terms and cells of an unrolled frame are those of its unrolled program.
use Rattle.std.specs.Prelude.{ℕ, ◌≡◌, ◌<◌, ◌↔◌, Bool, false, List, length, map}
use Rattle.word_spec.specs.RowFiles.{from_to}
use Rattle.call_spec.specs.Calls as calls
use Rattle.term_spec.specs.Terms as terms
use Rattle.term_spec.specs.Terms.{TermNode}
use Rattle.walk_spec.specs.Unrolled as tables
use Rattle.walk_spec.specs.Unrolled.{ExitsLeadLater}
use Rattle.walk_spec.specs.Unrolling as unrolling
use Rattle.term_spec.specs.WalkQuestions as walks
use Rattle.term_spec.specs.WalkQuestions.{term_reading}
use Rattle.term_spec.specs.Passive as passive
use Rattle.term_spec.specs.Cells as cells
use Rattle.term_spec.specs.ClauseForm as clauses
use Rattle.frame_laws.specs.HeadlessLaws.{as_question, as_unrolled, as_input}
use Rattle.frame_terms.specs.PassiveFrames.{entry_part, Passive, IsPassive, TellsQuestion, IsWalkable}
use Rattle.frame_terms.specs.FrameCells.{BaseRead, Agreement, AskedByte, Cells, TellsCells}
use Rattle.frame_terms.specs.FrameClauseForm.{named, input_list}

-- A passive program as one of the frame; never: the place of a bit that is 0, since no segment begins at a head.
abbrev pub as_passive : (never : ℕ) → passive.Passive → Passive
as_passive never q = record { nodes = q.nodes; met = q.met; fails = q.fails; steps = never; turns = q.turns }

-- the place is that of a bit that is 0 under every reading
pub record IsNever (u : tables.UnrolledProgram) (nodes : List TermNode) (t : ℕ) : Type 0 where
  pub bit : terms.HasWidth nodes 1 t
  pub zero : passive.UnderAll u (λ r. passive.Tells nodes (term_reading u r) t false)

-- The passive program of a program is that of its frame.
abbrev pub HeadlessPassive : Type 0
HeadlessPassive = (u : tables.UnrolledProgram) (q : passive.Passive) (never : ℕ) → IsNever u q.nodes never →
    passive.IsPassive u q ↔ IsPassive (as_unrolled u) false (as_passive never q)

-- So is the term of a question.
abbrev pub HeadlessTerms : Type 0
HeadlessTerms = (u : tables.UnrolledProgram) → 0 < length u.points → ExitsLeadLater u → (question : calls.Question) (t : walks.QuestionTerm) →
    walks.TellsQuestion u question t ↔ TellsQuestion (as_unrolled u) false (as_question question) t

-- And what terms need of an unrolled program is what they need of its frame.
abbrev pub HeadlessIsWalkable : Type 0
HeadlessIsWalkable = (u : tables.UnrolledProgram) → unrolling.IsWalkable u ↔ IsWalkable (as_unrolled u)

-- cells of a program as cells of its frame, whose base reads are all the entry's
abbrev pub as_read : ℕ → BaseRead
as_read j = record { part = entry_part; address = j }

abbrev pub as_agreement : cells.Agreement → Agreement
as_agreement a = record { condition = a.condition; part = entry_part; read = a.read; other = a.other }

abbrev pub as_asked : cells.AskedByte → AskedByte
as_asked a = record { condition = a.condition; part = entry_part; read = a.read; byte = a.byte }

abbrev pub as_cells : cells.Cells → Cells
as_cells c = record {
  nodes = c.nodes;
  addresses = c.addresses;
  reads = map as_read (from_to 0 (length c.addresses));
  agrees = map as_agreement c.agrees;
  asked = map as_asked c.asked;
  root = c.root;
}

-- The cells of a term of a program are those of the term of its frame.
abbrev pub HeadlessCells : Type 0
HeadlessCells = (u : tables.UnrolledProgram) (t : walks.QuestionTerm) (asked : ℕ → Bool) (c : cells.Cells) →
    cells.TellsCells u t asked c ↔ TellsCells (as_unrolled u) false false t asked (as_cells c)

-- The inputs of the cells of a program are those of the cells of its frame, in the same order.
abbrev pub HeadlessInputLists : Type 0
HeadlessInputLists = (u : tables.UnrolledProgram) (c : cells.Cells) →
    map (named (as_unrolled u)) (input_list (as_unrolled u) false (as_cells c)) ≡ map as_input (clauses.input_list u c)
