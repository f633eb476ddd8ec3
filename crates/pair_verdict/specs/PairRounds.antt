-- What a round of a question about two functions comes to, and what the question comes to.
use Rattle.std.specs.Prelude.{ℕ, ◌≡◌, ◌≤◌, ◌<◌, ◌+◌, ◌-◌, ◌^◌, ◌↔◌, Bool, true, false, List, [], Contains, length, slice_index}
use Rattle.bilv_spec.specs.Run.{Program}
use Rattle.bilv_spec.specs.Answers.{start_in}
use Rattle.bilv_spec.specs.Points.{is_known_at}
use Rattle.bilv_spec.specs.QuestionLaws.{Follows}
use Rattle.call_spec.specs.Calls.{PairQuestion}
use Rattle.clause_spec.specs.Clauses.{valuation}
use Rattle.cnf_form.specs.Views.{proof_of}
use Rattle.machine_spec.specs.Endings as endings
use Rattle.machine_spec.specs.StateText.{Layout, IsWritten}
use Rattle.pair_spec.specs.ExitPlaces.{HasOwnExit, before_step}
use Rattle.start_value.specs.Starts.{written_of}
use Rattle.start_value.specs.declared.start.Start.{Start}
use Rattle.word_spec.specs.State.{Written}
use Rattle.term_spec.specs.Cells.{AreFormed, Cells, read_address}
use Rattle.term_spec.specs.ClauseForm.{IsBroken, IsStartOf, reading}
use Rattle.term_spec.specs.Terms.{TermReading}
use Rattle.walk_spec.specs.Unrolled.{UnrolledProgram}
use Rattle.frame_start.specs.declared.meaning.Meaning.{Meaning}
use Rattle.frame_start.specs.declared.meaning.Meaning.TheVariants as meaning
use Rattle.mem_cells.specs.Views.{cells_of, program_of_cells}
use Rattle.question_form.specs.Views.{unrolled_of}
use Rattle.pair_form.specs.Views.{program_of_side_question}
use Rattle.pair_form.specs.declared.sides.SideQuestion.{SideQuestion}
use Rattle.pair_form.specs.declared.sides.SideCells.{SideCells}
use Rattle.pair_spec.specs.Links.{Link, asking}
use Rattle.pair_spec.specs.Pairs.{Readings, IsTrueOfPair}
use Rattle.pair_spec.specs.PairEvidence.{RefutesPair, SpendsPair}
use Rattle.links_lang.specs.Views.{links_of}
use Rattle.links_lang.specs.declared.links.Link as declared
use Rattle.mem_cells.specs.declared.cells.Celled.{Celled}
use Rattle.question_form.specs.FrameViews.{IsHeadless}
use Rattle.pair_terms.specs.Sides.{AreExitTerms, CanBeCells, IsPlacedAs, TellsSideOf, program_of_exit}
use Rattle.pair_terms.specs.Words.{AreLinksOfSide}
use Rattle.pair_terms.specs.declared.exits.ExitTerms.{ExitTerms}
use Rattle.question_form.specs.declared.questions.Passive.{Passive}
use Rattle.verdict.specs.Grounds.{IsGround}
use Rattle.verdict.specs.Rounds.{AreAdded, IsDecidable, entry_shown}
use Rattle.pair_verdict.specs.declared.verdicts.PairAnswered.{PairAnswered}
use Rattle.pair_verdict.specs.declared.verdicts.PairAnswered.TheVariants.{Sat, Refuted, Spent}
use Rattle.pair_verdict.specs.declared.deciding.Exits.{Exits}
use Rattle.pair_verdict.specs.declared.rounds.Asked.{Asked}
use Rattle.pair_verdict.specs.declared.rounds.Sides.{Sides}
use Rattle.pair_verdict.specs.declared.rounds.PairRound.{PairRound}
use Rattle.pair_verdict.specs.declared.rounds.PairRound.TheVariants.{Answered, Broken}

-- the question is true of some readings, which two starts follow
abbrev pub AreFollowed : (p q : Program) → (k : ℕ) → List Link → PairQuestion → (x y : endings.Start) → Type 0
AreFollowed p q k links question x y = (r : Readings) × IsTrueOfPair p q k links r question × Follows p k r.first x × Follows q k r.second y

-- A question about two functions is answered: by starts that can be written, with readings that make it true; by a refutation; or by a log that spends the
-- conflicts.
abbrev pub IsPairAnswered : (p q : Program) → (k : ℕ) → (form other : Layout) → List Link → PairQuestion → (conflicts : ℕ) → PairAnswered → Type 0
IsPairAnswered p q k form other links question conflicts (Sat s t) =
    IsWritten form (is_known_at p) (written_of s) × IsWritten other (is_known_at q) (written_of t)
    × AreFollowed p q k links question (start_in p form (written_of s)) (start_in q other (written_of t))
IsPairAnswered p q k form other links question conflicts (Refuted proof) = RefutesPair p q k links question (proof_of proof)
IsPairAnswered p q k form other links question conflicts (Spent proof) = SpendsPair p q k links question conflicts (proof_of proof)

-- it is the answer for all programs whose unrolled programs, with their exits as places, are these
abbrev pub PairAnswers : List Link → (first second : UnrolledProgram) → PairQuestion → (conflicts : ℕ) → PairAnswered → Type 0
PairAnswers links first second question conflicts a =
    (u w : UnrolledProgram) → IsPlacedAs u first → IsPlacedAs w second → (p q : Program) (k : ℕ) (form other : Layout) →
    IsGround (asking false links p) k form u → IsGround (asking true links q) k other w → IsPairAnswered p q k form other links question conflicts a

-- One side of a question about two functions, of which rounds can be made, and a passive program of its unrolled program.
pub record IsAskableSide (second : Bool) (links : List Link) (question : PairQuestion) (s : SideQuestion) (q : Passive) : Type 0 where
  pub same : program_of_side_question s ≡ unrolled_of q.unrolled.now
  pub decidable : IsDecidable q
  pub few : length s.question.passive.now.unrolled.now.points.items ≤ 2 ^ 28
  pub ready : CanBeCells s
  pub tells : TellsSideOf s second links question
  pub some : (u : UnrolledProgram) × IsPlacedAs u (program_of_side_question s) × HasOwnExit u

pub record AreAskableSides (links : List Link) (question : PairQuestion) (s : Sides) : Type 0 where
  pub first : IsAskableSide false links question s.first.now s.first_passive.now
  pub second : IsAskableSide true links question s.second.now s.second_passive.now

-- the unrolled programs of both sides, whose exits are places
abbrev pub first_placed : Sides → UnrolledProgram
first_placed s = program_of_side_question s.first.now

abbrev pub second_placed : Sides → UnrolledProgram
second_placed s = program_of_side_question s.second.now

-- the terms at the exit of a side, of which questions can be made, and a passive program of its unrolled program
pub record IsReady (second : Bool) (links : List declared.Link) (e : ExitTerms) (q : Passive) : Type 0 where
  pub same : program_of_exit e ≡ unrolled_of q.unrolled.now
  pub decidable : IsDecidable q
  pub headless : IsHeadless e.passive.unrolled.now
  pub few : length e.passive.unrolled.now.points.items ≤ 2 ^ 28
  pub links_are : AreLinksOfSide second e.passive.unrolled.now.form links
  pub terms : AreExitTerms second (links_of links) e
  pub some : (u : UnrolledProgram) × IsPlacedAs u (program_of_exit e) × HasOwnExit u

pub record AreReady (links : List declared.Link) (e : Exits) : Type 0 where
  pub first : IsReady false links e.first e.first_passive
  pub second : IsReady true links e.second e.second_passive

-- the bytes that are asked of both sides
pub record AreAsked (first second : UnrolledProgram) (a : Asked) : Type 0 where
  pub of_first : AreAdded first a.first.items
  pub of_second : AreAdded second a.second.items

-- addresses of known bytes, rising, of which none was asked
pub record AreNew (u : UnrolledProgram) (added found : List ℕ) : Type 0 where
  pub are : AreAdded u found
  pub new : (a : ℕ) → Contains found a → ¬ Contains added a

-- further bytes to ask, on one side at least
pub record AreFurtherOfBoth (first second : UnrolledProgram) (asked more : Asked) : Type 0 where
  pub of_first : AreNew first asked.first.items more.first.items
  pub of_second : AreNew second asked.second.items more.second.items
  pub some : 0 < length more.first.items + length more.second.items

-- the question's answer, or further known bytes to ask
abbrev pub IsPairRound : List Link → Sides → PairQuestion → Asked → (conflicts : ℕ) → PairRound → Type 0
IsPairRound links s question asked conflicts (Answered a) = PairAnswers links (first_placed s) (second_placed s) question conflicts a
IsPairRound links s question asked conflicts (Broken more) = AreFurtherOfBoth (first_placed s) (second_placed s) asked more

-- reads of one address have one byte
abbrev pub AreOne : Cells → TermReading → Type 0
AreOne c x = (i j : ℕ) → i < length c.addresses → j < length c.addresses → read_address c x i ≡ read_address c x j → x.base 0 i ≡ x.base 0 j

-- The addresses are those of the known bytes that a base read has otherwise under the values, rising and each once.
pub record AreBroken (c : Celled) (values : List Bool) (at : List ℕ) : Type 0 where
  pub rise : (i j : ℕ) → i < j → j < length at → slice_index at i < slice_index at j
  pub broken : (a : ℕ) → Contains at a ↔ IsBroken (program_of_cells c) (cells_of c) (reading (program_of_cells c) (cells_of c) (valuation values)) a

-- Values of cells in which base reads of one address have one byte, with a passive program of the cells' unrolled program.
pub record AreValues (c : Celled) (values : List Bool) (q : Passive) : Type 0 where
  pub formed : AreFormed (program_of_cells c) (cells_of c)
  pub one : AreOne (cells_of c) (reading (program_of_cells c) (cells_of c) (valuation values))
  pub same : program_of_cells c ≡ unrolled_of q.unrolled.now
  pub decidable : IsDecidable q

abbrev pub AreValuesOf : SideCells → (values : List Bool) → Passive → Type 0
AreValuesOf c values q = AreValues c.celled values q

-- what values mean: the start that they show, in one segment, or the known bytes that they have not
abbrev pub IsMeant : Celled → (values : List Bool) → Meaning → Type 0
IsMeant c values (meaning.Shown s) =
    IsStartOf (program_of_cells c) (cells_of c) (valuation values) (entry_shown s) × (length s.choices.items ≡ 1)
IsMeant c values (meaning.Broken list) = AreBroken c values list.items × (0 < length list.items)

-- the known bytes that they have not
abbrev pub broken_in : Meaning → List ℕ
broken_in (meaning.Shown s) = []
broken_in (meaning.Broken list) = list.items

-- a start is that of values, but for choices at a step that only the exit's place makes
abbrev pub IsShown : Celled → (values : List Bool) → Start → Type 0
IsShown c values s =
    (w : Written) × IsStartOf (program_of_cells c) (cells_of c) (valuation values) w
    × (written_of s ≡ before_step (length (program_of_cells c).points - 1) w)

-- two starts are those of values
abbrev pub AreShown : (first second : Celled) → (values later : List Bool) → PairAnswered → Type 0
AreShown c d values later (Sat s t) = IsShown c values s × IsShown d later t
AreShown c d values later (Refuted proof) = ⊥
AreShown c d values later (Spent proof) = ⊥

-- Satisfying values, those of the second side from a place on, come to starts that are theirs, or to the known bytes that they have not.
abbrev pub AreJudged : (first second : SideCells) → (values later : List Bool) → PairRound → Type 0
AreJudged c d values later (Answered a) = AreShown c.celled d.celled values later a
AreJudged c d values later (Broken more) =
    AreBroken c.celled values more.first.items × AreBroken d.celled later more.second.items × (0 < length more.first.items + length more.second.items)
