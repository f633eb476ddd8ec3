-- A term tied to a copy of another, and the term of a question by that.
use Rattle.std.specs.Prelude.{ℕ, ◌≡◌, ◌+◌, bit_and, List, [], length}
use Rattle.term_spec.specs.Terms.{TermReading, InRange, TermNode, AreTyped, HasWidth, term_word, term_gates, term_loads, term_stores, term_joins}
use Rattle.term_spec.specs.WalkQuestions.{QuestionTerm}
use Rattle.term_dag.specs.Made.{Grew, InputsFrom}
use Rattle.call_form.specs.declared.kind.Asked.{Asked}
use Rattle.call_form.specs.declared.kind.Asked.TheVariants.{Entry, Fail, Step, Turn}
use Rattle.question_form.specs.declared.questions.Passive.{Passive}
use Rattle.question_form.specs.Views.{unrolled_of}
use Rattle.weakest_pre.specs.Copies.{IsMoved}
use Rattle.weakest_pre.specs.Entry.{IsEntryBit}

-- A bit is 1 where a bit of a list is, and a bit of another list. It costs a gate besides what that list does, and names no other input.
pub record IsTied (source old new : List TermNode) (first second t : ℕ) : Type 0 where
  pub grew : Grew old new (term_gates source + 1) (term_loads source) (term_stores source) (term_joins source) (length source + 2)
  pub inputs : InputsFrom old new (IsMoved source)
  pub typed : AreTyped new
  pub width : HasWidth new 1 t
  pub value : (x : TermReading) → InRange x → term_word x new t ≡ bit_and (term_word x old first) (term_word x source second)

-- what a question asks of a passive program is a bit; whether there is an entry state asks nothing of it
abbrev pub HasAskedBit : Passive → Asked → Type 0
HasAskedBit p Entry = Unit {0}
HasAskedBit p Fail = HasWidth p.dag 1 p.fails.0
HasAskedBit p Step = HasWidth p.dag 1 p.steps.0
HasAskedBit p Turn = HasWidth p.dag 1 p.turns.0

-- the term of a question is the entry condition's bit, tied to a copy of the bit that the question asks
abbrev pub IsTiedBy : Passive → Asked → (nodes : List TermNode) → (entry : ℕ) → QuestionTerm → Type 0
IsTiedBy p Entry nodes entry t = (t.nodes ≡ nodes) × (t.root ≡ entry)
IsTiedBy p Fail nodes entry t = IsTied p.dag nodes t.nodes entry p.fails.0 t.root
IsTiedBy p Step nodes entry t = IsTied p.dag nodes t.nodes entry p.steps.0 t.root
IsTiedBy p Turn nodes entry t = IsTied p.dag nodes t.nodes entry p.turns.0 t.root

-- the term of a question, from the nodes and the bit of the entry condition
pub record IsTermOf (p : Passive) (asked : Asked) (t : QuestionTerm) : Type 0 where
  pub nodes : List TermNode
  pub bit : ℕ
  pub entry : IsEntryBit (unrolled_of p.unrolled.now) [] nodes bit
  pub tied : IsTiedBy p asked nodes bit t
