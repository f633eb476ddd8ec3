-- The exit's terms as a value, and the sides that are made of them.
use Rattle.std.specs.Prelude.{ℕ, ◌≡◌, ◌<◌, ◌+◌, ◌*◌, bit_and, Bool, true, List, [], length, map}
use Rattle.std.specs.List.{flat_map, AllByRecursion}
use Rattle.word_spec.specs.Words.{bit}
use Rattle.bilv_spec.specs.Questions.{Reading, IsReading}
use Rattle.call_spec.specs.Calls.{PairQuestion, PairOfStates, DifferenceOfExits}
use Rattle.term_spec.specs.Terms.{TermReading, InRange, TermNode, AreTyped, HasWidth, term_word, term_gates, term_loads, term_stores, term_joins}
use Rattle.walk_spec.specs.Unrolled.{UnrolledProgram, ExitsLeadLater, state_at}
use Rattle.walk_spec.specs.Prices.{variables_of}
use Rattle.term_spec.specs.WalkQuestions.{Room, AreTermsWithin, IsNamedBelow, is_asked, term_reading}
use Rattle.term_dag.specs.Made.{Grew, InputsFrom}
use Rattle.term_names.specs.Chosen.{at_entry}
use Rattle.pair_spec.specs.Links.{Link}
use Rattle.pair_spec.specs.Pairs.{shared_bytes}
use Rattle.pair_spec.specs.PairTerms.{HaveWords, HaveWidths, all_entry_words, entry_widths, with_exit_place, TellsSide, TellsSideCells}
use Rattle.question_form.specs.FrameViews.{IsHeadless}
use Rattle.question_form.specs.Views.{unrolled_of}
use Rattle.weakest_pre.specs.Entry.{meets}
use Rattle.weakest_pre.specs.Copies.{IsMoved}
use Rattle.mem_cells.specs.Words.{IsWordAt}
use Rattle.pair_form.specs.declared.sides.SideQuestion.{SideQuestion}
use Rattle.pair_form.specs.declared.sides.SideCells.{SideCells}
use Rattle.pair_form.specs.Views.{side_term_of, side_cells_of, program_of_side_question}
use Rattle.mem_cells.specs.Words.{places_of}
use Rattle.pair_terms.specs.declared.exits.ExitTerms.{ExitTerms}
use Rattle.pair_terms.specs.Places.{LeavesByLink}
use Rattle.pair_terms.specs.Exits.{AreWithinExit, TellsLeaving}

-- the unrolled program, with the exit as its last place
abbrev pub program_of_exit : ExitTerms → UnrolledProgram
program_of_exit e = unrolled_of e.passive.unrolled.now

-- the terms of the exit
pub record AreExitTerms (second : Bool) (links : List Link) (e : ExitTerms) : Type 0 where
  pub within : AreWithinExit (program_of_exit e) links e.passive.dag
  pub tells : TellsLeaving (program_of_exit e) second links e.passive.dag e.met.0 (places_of e.words.items)

-- A program, with its exit as one more place, is another: it has a point, its exits lead to later places, and it is left at the value that the link register
-- has at entry.
pub record IsPlacedAs (u w : UnrolledProgram) : Type 0 where
  pub is : w ≡ with_exit_place u
  pub some : 0 < length u.points
  pub later : ExitsLeadLater u
  pub by_link : LeavesByLink u

-- the terms of a side are those of each program that is the side's without the exit's place
abbrev pub TellsSideOf : SideQuestion → (second : Bool) → List Link → PairQuestion → Type 0
TellsSideOf s second links question = (u : UnrolledProgram) → IsPlacedAs u (program_of_side_question s) → TellsSide u second links question (side_term_of s)

-- the terms of a side can be made cells: terms over the program, whose root is a bit, and whose words have a width
pub record CanBeCells (s : SideQuestion) : Type 0 where
  pub headless : IsHeadless s.question.passive.now.unrolled.now
  pub terms : (room : Room) × AreTermsWithin (program_of_side_question s) room s.question.dag
  pub root : HasWidth s.question.dag 1 s.question.root.0
  pub entries : AllByRecursion (IsWordAt s.question.dag) (places_of s.entries.items)
  pub exits : AllByRecursion (IsWordAt s.question.dag) (places_of s.exits.items)

-- cells are those of a side, whatever its terms tell
abbrev pub TellsCellsOf : SideQuestion → (added : List ℕ) → SideCells → Type 0
TellsCellsOf s added c = (u : UnrolledProgram) (second : Bool) (links : List Link) (question : PairQuestion) → IsPlacedAs u (program_of_side_question s) →
    TellsSide u second links question (side_term_of s) →
    TellsSideCells u links question (side_term_of s) (is_asked added (program_of_side_question s).literals) (side_cells_of c)

-- the words of links at entry, over the state at entry
pub record AreEntryTerms (u : UnrolledProgram) (second : Bool) (links : List Link) (old new : List TermNode) (terms : List ℕ) : Type 0 where
  pub grew : Grew old new 0 (shared_bytes links) 0 0 (variables_of u + length links + 3 * shared_bytes links)
  pub inputs : InputsFrom old new (IsNamedBelow u 0)
  pub typed : AreTyped new
  pub widths : HaveWidths new terms (flat_map entry_widths links)
  pub values : (r : Reading) → IsReading r → HaveWords (term_reading u r) new terms (map (λ f. f r.state) (all_entry_words second links))

-- where the entry condition is met, terms have the words of others
abbrev pub HaveSameWords : UnrolledProgram → (source new : List TermNode) → (words terms : List ℕ) → Type 0
HaveSameWords u source new words terms = (x : TermReading) → InRange x → meets u (state_at (at_entry x) u.entry) ≡ true →
    map (term_word x new) terms ≡ map (term_word x source) words

-- A bit is 1 where the entry condition's bit is, and another. Terms are copies of words, as far as the entry condition is met. They cost a gate besides what the
-- list of both does, and name no other input.
pub record AreTied (u : UnrolledProgram) (source old new : List TermNode) (entry met : ℕ) (asked : List ℕ) (t : ℕ) (terms : List ℕ) : Type 0 where
  pub grew : Grew old new (term_gates source + 1) (term_loads source) (term_stores source) (term_joins source) (length source + 2)
  pub inputs : InputsFrom old new (IsMoved source)
  pub typed : AreTyped new
  pub width : HasWidth new 1 t
  pub value : (x : TermReading) → InRange x → term_word x old entry ≡ bit (meets u (state_at (at_entry x) u.entry)) →
      term_word x new t ≡ bit_and (term_word x old entry) (term_word x source met)
  pub widths : (ws : List ℕ) → HaveWidths source asked ws → HaveWidths new terms ws
  pub words : HaveSameWords u source new asked terms

-- what a question asks of it
abbrev pub AreTiedBy : PairQuestion → (u : UnrolledProgram) → (source old new : List TermNode) → (entry met : ℕ) → (words : List ℕ) → (t : ℕ) →
    (terms : List ℕ) → Type 0
AreTiedBy PairOfStates u source old new entry met words t terms = (new ≡ old) × (t ≡ entry) × (terms ≡ [])
AreTiedBy DifferenceOfExits u source old new entry met words t terms = AreTied u source old new entry met words t terms
